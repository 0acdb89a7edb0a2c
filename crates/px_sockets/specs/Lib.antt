pub mod Untold
pub mod Bounds
pub mod Tried
pub mod Guests
