pub mod Answering
pub mod Asking
pub mod Returning
pub mod Heads
pub mod Pumps
pub mod Hearing
