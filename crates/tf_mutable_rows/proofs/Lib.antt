pub mod Crossing
pub mod Fresh
pub mod Gathered
pub mod Hashing
pub mod IndexWords
pub mod Indexes
pub mod Records
