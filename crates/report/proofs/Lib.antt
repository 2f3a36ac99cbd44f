pub mod Part
pub mod Rows
pub mod Sizes
