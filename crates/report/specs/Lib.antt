pub mod Words
pub mod Lines
pub mod State
pub mod Rows
