pub mod Draws
pub mod Files
pub mod Sessions
pub mod Jobs
