pub mod Attempts
pub mod Between
pub mod Opening
pub mod Plans
pub mod Replacing
pub mod Resuming
pub mod Trying
