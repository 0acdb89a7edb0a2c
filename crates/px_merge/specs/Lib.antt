pub mod Merged
pub mod Merging
pub mod Selections
pub mod Keys
pub mod Candidates
pub mod Indexes
pub mod Expressions
pub mod Finders
