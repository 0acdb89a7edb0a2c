pub mod LineLemmas
pub mod FindLemmas
pub mod SeenLemmas
pub mod NameLemmas
pub mod PlaceLemmas
pub mod Crossing
