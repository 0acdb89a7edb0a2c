pub mod Tagging
pub mod Fronts
pub mod Places
