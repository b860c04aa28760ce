pub mod Places
pub mod Cores
pub mod Ends
pub mod Pipelines
pub mod Inside
pub mod Pushed
pub mod Driving
