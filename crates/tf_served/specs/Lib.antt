pub mod Served
pub mod Rooms
