pub mod Paths
pub mod Statuses
pub mod Pages
pub mod Wishes
pub mod Boards
