pub mod Cells
pub mod Frame
pub mod Changed
pub mod Hashes
pub mod Encoded
pub mod Decoded
pub mod Widths
