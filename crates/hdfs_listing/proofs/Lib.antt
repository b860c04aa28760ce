mod Dues
mod Ends
mod Gathering
pub mod Names
mod Nexts
pub mod Turning
