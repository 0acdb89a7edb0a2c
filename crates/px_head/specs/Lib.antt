pub mod Blocks
pub mod Faults
pub mod Fields
pub mod Heads
pub mod Prints
pub mod ReadBack
pub mod Searches
