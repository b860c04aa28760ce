pub mod Acting
pub mod Asking
pub mod Executing
pub mod Meeting
pub mod Preparing
pub mod Refusing
pub mod Session
pub mod Whole
