pub mod Twins
pub mod Marks
