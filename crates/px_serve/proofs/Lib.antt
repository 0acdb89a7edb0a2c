pub mod AnsweringLemmas
pub mod CallerLemmas
pub mod HistoryLemmas
pub mod KeepingLemmas
pub mod SessionLemmas
pub mod TakingLemmas
