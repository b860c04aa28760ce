pub mod Packets
pub mod Relays
