pub mod Calling
pub mod Counting
pub mod Ending
pub mod Keeping
pub mod Lasts
pub mod Waiting
