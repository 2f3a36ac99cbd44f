pub mod Added
pub mod Search
pub mod Entered
