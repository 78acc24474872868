pub mod History
pub mod Rule
pub mod Added
pub mod Beginning
pub mod Written
