pub mod FrontLemmas
pub mod AheadLemmas
pub mod FeedLemmas
