-- What public contracts speak of.
pub mod Flags
pub mod Fits
pub mod Journal
pub mod Status
pub mod Balances
pub mod Closed
pub mod Lookup
pub mod Stored
pub mod Verdict
pub mod Due
pub mod Lawful
pub mod Filter
pub mod Answer
pub mod Ledger
pub mod Laws
-- What contracts of its parts and proofs alone speak of.
pub mod Steps
pub mod Expired
pub mod Walk
