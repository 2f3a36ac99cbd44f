pub mod Few
pub mod Rows
pub mod Judged
pub mod Boards
pub mod HashSigners
pub mod Fetched
