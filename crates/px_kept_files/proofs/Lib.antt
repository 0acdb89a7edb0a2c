pub mod StoreLemmas
pub mod WholeLemmas
