pub mod Forms
pub mod Framings
pub mod Finished
pub mod Heads
pub mod Passages
