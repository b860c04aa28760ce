pub mod Answered
pub mod Begun
pub mod Coming
pub mod InLimits
pub mod Kept
pub mod Known
pub mod Quiet
pub mod Written
