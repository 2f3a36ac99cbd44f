pub mod Full
pub mod Gathered
pub mod BoardItems
