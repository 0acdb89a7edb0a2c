-- The definitions that the contracts cite.
pub mod Standing
pub mod Balances
pub mod Shelves
pub mod Histories
pub mod Keeping
pub mod Joins
pub mod Coming
pub mod Pools
