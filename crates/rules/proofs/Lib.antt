pub mod Sizes
pub mod Spans
mod Taking
