pub mod Database
pub mod Receipts
