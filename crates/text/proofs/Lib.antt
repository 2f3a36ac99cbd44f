pub mod Writing
pub mod Digits
pub mod Chunks
pub mod Filling
pub mod Puts
