pub mod Faults
pub mod Meanings
pub mod Patterns
pub mod Aliases
pub mod AliasTables
pub mod Files
pub mod PatternLines
pub mod Readings
