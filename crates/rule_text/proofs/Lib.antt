pub mod Lexing
pub mod Entries
pub mod Drafting
mod Reading
mod Scanning
mod Failing
mod First
mod Unique
mod Exact
