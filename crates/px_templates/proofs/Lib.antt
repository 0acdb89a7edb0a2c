pub mod LineLemmas
pub mod PieceLemmas
pub mod RenderLemmas
pub mod ReplyLemmas
