pub mod Addresses
pub mod Hashes
pub mod Hosts
pub mod Names
pub mod Rules
pub mod Slots
pub mod Words
pub mod Readings
