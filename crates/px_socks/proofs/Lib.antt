-- Lemmas.
pub mod EndLemmas
pub mod ReplyLemmas
pub mod MessageLemmas
pub mod MarkLemmas
pub mod NoteLemmas
pub mod ServeLemmas
pub mod DialLemmas
pub mod HangLemmas
pub mod HandshakeLemmas
pub mod ComingLemmas
