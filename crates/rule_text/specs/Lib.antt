pub mod Words
pub mod Names
pub mod Grammar
pub mod Faults
pub mod Reading
pub mod Lexing
pub mod Readers
pub mod Calls
