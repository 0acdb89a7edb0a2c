pub mod PartLemmas
pub mod JoiningLemmas
pub mod StepLemmas
