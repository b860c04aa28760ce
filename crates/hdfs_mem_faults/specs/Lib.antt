pub mod Asks
pub mod Calls
pub mod Following
pub mod Linking
pub mod NodePlans
pub mod Plans
pub mod Series
pub mod Tallies
