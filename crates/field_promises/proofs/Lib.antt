pub mod OnBytes
pub mod Runs
pub mod Kept
pub mod Beside
pub mod FieldPeer
pub mod Worked
