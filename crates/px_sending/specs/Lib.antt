pub mod Heads
pub mod Sends
pub mod Pieces
