pub mod Jobs
pub mod Reckon
pub mod Rule
