pub mod Mutable
