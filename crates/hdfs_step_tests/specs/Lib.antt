pub mod Namenodes
