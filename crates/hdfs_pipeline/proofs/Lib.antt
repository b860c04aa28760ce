pub mod Finishing
pub mod Entering
pub mod Failing
pub mod Inwards
pub mod Rows
pub mod Running
mod Acknowledging
mod Settling
mod Driving
pub mod DrivingOn
mod Happening
