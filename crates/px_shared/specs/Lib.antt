-- The definitions that the contracts cite.
pub mod Answers
pub mod Links
pub mod Partings
pub mod Sharing
pub mod SharedDoors
