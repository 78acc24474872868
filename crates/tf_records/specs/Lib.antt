pub mod Layout
pub mod LittleEndian
pub mod Outcome
