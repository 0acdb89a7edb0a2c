pub mod Stamps
pub mod Readings
pub mod Stores
pub mod Lookings
pub mod Contents
