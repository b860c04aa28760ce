pub mod Looking
pub mod Transferring
pub mod Ranges
pub mod Files
