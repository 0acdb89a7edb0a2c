pub mod Views
pub mod Lists
pub mod Rules
pub mod Published
pub mod Schedule
