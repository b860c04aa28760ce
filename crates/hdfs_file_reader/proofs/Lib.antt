pub mod Counting
pub mod Looking
mod Parts
mod Pieces
mod Readers
pub mod Ranged
pub mod Staying
pub mod Transfers
mod Beginning
