pub mod Season
pub mod Header
pub mod Quorum
