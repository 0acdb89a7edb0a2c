-- The definitions that the contracts cite.
pub mod Names
pub mod Closings
pub mod Steps
pub mod Outgoings
pub mod Answers
pub mod Incomings
