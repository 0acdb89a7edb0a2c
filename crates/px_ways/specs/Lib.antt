pub mod Directions
pub mod Ways
