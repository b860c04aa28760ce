pub mod Ancestors
pub mod Mounted
pub mod Configured
pub mod Shuffling
