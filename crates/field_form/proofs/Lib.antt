pub mod Named
pub mod Readings
