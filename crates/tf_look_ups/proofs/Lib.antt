pub mod Gaps
pub mod Found
pub mod Finding
pub mod Ahead
