pub mod Forest
pub mod Notes
pub mod Unpublished
pub mod UsedIds
