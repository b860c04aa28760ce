pub mod Coding
pub mod Steps
pub mod Places
pub mod Striping
pub mod Policies
pub mod Refusals
pub mod Restoring
pub mod Stripes
