pub mod OriginLemmas
pub mod WordLemmas
pub mod ReadLemmas
pub mod PassLemmas
pub mod LoadLemmas
pub mod ClientLemmas
pub mod ExerciseLemmas
