pub mod Changes
pub mod Idle
pub mod Names
