pub mod FrontLemmas
pub mod StillLemmas
pub mod PlaceLemmas
