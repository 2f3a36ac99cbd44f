pub mod Read
pub mod Report
pub mod Receipts
pub mod Steps
