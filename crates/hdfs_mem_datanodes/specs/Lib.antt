pub mod Blocks
pub mod Nodes
pub mod Pieces
pub mod Replicas
pub mod Uuids
