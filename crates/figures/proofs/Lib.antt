pub mod Counted
pub mod Most
pub mod Cases
