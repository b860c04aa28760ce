pub mod Giving
pub mod Lowest
pub mod Nodes
pub mod Pieces
pub mod Pipelines
