pub mod Blocks
pub mod Carrying
pub mod Connecting
pub mod Going
pub mod Reader
pub mod Rebuilding
