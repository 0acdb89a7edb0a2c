pub mod Targets
pub mod Decisions
pub mod Servers
pub mod Forwards
pub mod Lines
pub mod Routes
