pub mod Fed
pub mod FieldPeer
pub mod Kept
pub mod Worked
