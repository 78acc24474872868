-- What public contracts speak of.
pub mod Chain
pub mod Batch
-- What contracts of its parts and proofs alone speak of.
pub mod Walk
pub mod Moving
pub mod Keeping
