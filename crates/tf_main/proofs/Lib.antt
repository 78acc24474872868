pub mod Reversed
pub mod Stops
pub mod Fronts
