pub mod Readings
pub mod Sound
