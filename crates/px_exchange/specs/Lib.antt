pub mod Replies
pub mod Dialling
pub mod Rows
pub mod Standing
pub mod Causes
pub mod Exchange
