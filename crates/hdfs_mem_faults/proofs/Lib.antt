pub mod Asking
pub mod Bounds
pub mod Failing
pub mod Following
pub mod Lines
pub mod Linking
pub mod Planning
pub mod Updating
