pub mod Flagged
pub mod Running
