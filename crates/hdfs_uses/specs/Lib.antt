pub mod Trying
pub mod Allowing
pub mod Passing
pub mod Footers
pub mod Writing
pub mod Logs
pub mod Copying
