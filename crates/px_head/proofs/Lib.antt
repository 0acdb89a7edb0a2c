pub mod LineLemmas
mod PrintLemmas
pub mod BlockLemmas
pub mod SearchLemmas
pub mod GrammarBlocks
pub mod Fits
pub mod HeadLemmas
pub mod ReadBackLemmas
mod ReadingLemmas
