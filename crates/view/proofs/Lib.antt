pub mod Told
pub mod Cleared
pub mod Meets
pub mod Keeps
pub mod Whatever
pub mod Heard
pub mod Quorum
pub mod Whole
