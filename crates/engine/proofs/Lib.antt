pub mod Clashing
pub mod Fits
pub mod Start
pub mod Steps
pub mod Calls
pub mod States
