pub mod Crossing
pub mod CutLemmas
pub mod IndexLemmas
pub mod NameLemmas
pub mod PatternLemmas
pub mod PatternLineLemmas
pub mod ResultLemmas
