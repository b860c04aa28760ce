pub mod Addresses
pub mod Freshness
