pub mod Reads
pub mod Finder
pub mod Gapped
