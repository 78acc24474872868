pub mod Publish
pub mod Tables
pub mod Partly
