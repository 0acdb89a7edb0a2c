pub mod Rules
pub mod Lines
pub mod Elements
pub mod Body
pub mod Extracts
pub mod Reading
pub mod Seen
pub mod Passing
