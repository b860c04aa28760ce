pub mod Blocks
pub mod Fakes
