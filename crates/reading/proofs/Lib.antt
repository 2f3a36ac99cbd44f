pub mod Read
pub mod Lines
pub mod Closed
pub mod Numbers
pub mod Receipts
pub mod Every
pub mod Steps
