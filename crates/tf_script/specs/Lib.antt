-- The language, which the contract of `parse` speaks of.
pub mod Lines
pub mod Words
pub mod Values
pub mod Fields
pub mod Records
pub mod Verbs
pub mod Command
pub mod Statements
pub mod Script
pub mod CommandViews
-- What contracts of its parts and proofs alone speak of.
pub mod Reader
