pub mod Pages
pub mod Lines
pub mod Symbols
pub mod Pieces
pub mod Rendering
pub mod Runs
pub mod Faults
pub mod Replies
