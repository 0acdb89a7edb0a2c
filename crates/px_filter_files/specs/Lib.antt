pub mod Headings
pub mod FilterFiles
pub mod Seen
pub mod Faults
pub mod Places
