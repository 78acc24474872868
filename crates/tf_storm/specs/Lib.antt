pub mod Storm
pub mod Tasks
