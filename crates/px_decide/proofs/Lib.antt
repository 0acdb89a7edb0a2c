pub mod TargetLemmas
pub mod RouteLemmas
pub mod ServerLemmas
pub mod DialNameLemmas
pub mod WordLemmas
pub mod Crossing
