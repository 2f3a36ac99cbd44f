pub mod Words
pub mod Union
pub mod Rows
pub mod Boards
