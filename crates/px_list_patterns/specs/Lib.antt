pub mod Dotted
pub mod Sections
