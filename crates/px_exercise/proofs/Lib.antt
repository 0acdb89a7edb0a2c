pub mod LoadLemmas
pub mod RunLemmas
