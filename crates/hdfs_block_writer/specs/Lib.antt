-- What a writer of a block is, and what its calls do.
pub mod Packing
pub mod OpenPipelines
pub mod BlockWriters
pub mod Written
pub mod Pushing
