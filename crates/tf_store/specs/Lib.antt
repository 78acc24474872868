pub mod Book
pub mod Events
pub mod Public
pub mod Publish
pub mod Queue
pub mod Receipt
pub mod Rooms
pub mod Store
