pub mod LoadLemmas
pub mod ReadyLemmas
pub mod ScriptLemmas
pub mod SessionLemmas
pub mod StatusLemmas
pub mod TopLemmas
