mod Asking
mod Pushes
mod Handing
pub mod Later
mod Bounds
mod Shorts
mod Adding
mod Pinned
mod Words
mod Sets
