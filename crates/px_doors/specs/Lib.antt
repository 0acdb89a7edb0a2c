pub mod Doors
pub mod Parted
pub mod SocketDoors
