pub mod AccountBalanceBytes
pub mod AccountBytes
pub mod AccountFilterBytes
pub mod Bytes
pub mod Fields
pub mod QueryFilterBytes
pub mod TransferBytes
