pub mod Commands
pub mod Entries
pub mod Numbers
pub mod Parsing
pub mod Scripts
pub mod Texts
pub mod Words
