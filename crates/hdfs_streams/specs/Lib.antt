pub mod MemStreams
pub mod Reads
pub mod Streams
