mod ViewLemmas
mod FrontLemmas
mod Adding
pub mod Crossing
mod Keeps
mod ScheduleLemmas
