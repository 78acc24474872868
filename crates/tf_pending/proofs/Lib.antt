pub mod Judging
pub mod Pulses
