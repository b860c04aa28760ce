pub mod Counts
pub mod Ends
pub mod Inside
pub mod Links
pub mod Nodes
pub mod Pairs
