pub mod PieceLemmas
pub mod MessageLemmas
pub mod HeadLemmas
