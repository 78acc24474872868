pub mod Stored
pub mod Cuts
pub mod Chained
pub mod Left
pub mod Judged
pub mod Paired
pub mod Batches
