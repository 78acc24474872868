pub mod Reader
pub mod Asked
