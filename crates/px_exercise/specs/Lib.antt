pub mod Faults
pub mod Counts
pub mod Runs
pub mod Exercises
