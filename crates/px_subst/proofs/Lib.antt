pub mod FieldLemmas
pub mod ExpressionLemmas
pub mod WordLemmas
pub mod JobLemmas
pub mod MatchLemmas
pub mod Alike
pub mod FindsLemmas
pub mod Crossing
