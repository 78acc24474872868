pub mod Marks
pub mod Notes
pub mod Noting
pub mod Refused
pub mod Idle
pub mod Crossing
pub mod UsedIds
