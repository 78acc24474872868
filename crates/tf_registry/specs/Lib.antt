pub mod Table
pub mod Description
pub mod Row
pub mod Run
pub mod Limit
pub mod Install
