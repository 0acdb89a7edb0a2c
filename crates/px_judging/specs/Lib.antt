pub mod Readings
pub mod Given
pub mod Requests
pub mod Replies
pub mod Sending
pub mod Judging
