pub mod Common
pub mod Fetching
pub mod HashSigners
