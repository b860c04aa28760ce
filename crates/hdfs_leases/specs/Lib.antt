pub mod Files
pub mod Leases
