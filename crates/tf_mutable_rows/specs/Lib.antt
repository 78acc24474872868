pub mod Fresh
pub mod Hashed
pub mod Indexes
pub mod Rising
