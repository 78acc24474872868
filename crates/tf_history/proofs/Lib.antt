pub mod Prefixes
pub mod Publications
pub mod Steps
pub mod Noting
