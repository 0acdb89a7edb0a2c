pub mod LineLemmas
pub mod MoveLemmas
pub mod HeldLemmas
pub mod StepLemmas
pub mod ElementLemmas
pub mod BodyLemmas
pub mod RuleLemmas
mod PassLemmas
mod ExtractLemmas
