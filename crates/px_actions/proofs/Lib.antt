pub mod BraceLemmas
pub mod EntryLemmas
pub mod RuleLemmas
pub mod SetLemmas
pub mod Table
pub mod UpdateLemmas
pub mod TableLemmas
