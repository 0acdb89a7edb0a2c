pub mod FieldLines
pub mod Names
