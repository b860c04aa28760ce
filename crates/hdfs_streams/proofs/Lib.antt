pub mod PrintLemmas
pub mod ReadLemmas
