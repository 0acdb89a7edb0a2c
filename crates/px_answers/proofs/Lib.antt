pub mod AgainLemmas
pub mod HeadLemmas
pub mod PassageLemmas
pub mod SettledLemmas
