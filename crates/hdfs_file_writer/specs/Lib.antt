pub mod Faults
pub mod Failing
pub mod OnlyFiles
pub mod Sizing
pub mod Tails
pub mod Tries
pub mod WholeBlocks
pub mod Writers
