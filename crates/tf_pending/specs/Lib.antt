-- What public contracts speak of.
pub mod Judgement
pub mod Pulse
-- What contracts of its parts and proofs alone speak of.
pub mod Parts
