pub mod TagLemmas
pub mod TagMapLemmas
pub mod ChainLemmas
pub mod StateLemmas
pub mod SeatLemmas
pub mod BoardLemmas
pub mod Crossing
