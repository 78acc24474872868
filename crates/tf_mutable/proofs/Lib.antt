pub mod Logged
pub mod Sorting
