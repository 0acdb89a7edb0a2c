pub mod StandingLemmas
pub mod DiallingLemmas
pub mod TalkLemmas
pub mod CarryLemmas
pub mod ReplyLemmas
