pub mod Keyed
pub mod Named
pub mod Parents
pub mod Plains
pub mod Walked
pub mod Whole
