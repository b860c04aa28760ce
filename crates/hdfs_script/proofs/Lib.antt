pub mod GainLemmas
pub mod HalfLemmas
pub mod NumberLemmas
pub mod ParseLemmas
pub mod PrintLemmas
pub mod SettingLemmas
pub mod WordLemmas
