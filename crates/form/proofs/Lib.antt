pub mod Ops
pub mod Written
