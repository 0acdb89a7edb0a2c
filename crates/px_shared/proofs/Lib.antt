pub mod AnswerLemmas
pub mod FrontLemmas
pub mod LinkLemmas
pub mod SharedDoorLemmas
