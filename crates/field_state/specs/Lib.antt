pub mod Layout
pub mod Holding
pub mod Ready
pub mod Parts
pub mod Hearing
pub mod Encode
pub mod Width
