pub mod Fields
pub mod TwoThirds
pub mod Ranges
pub mod Seasons
pub mod Weighing
pub mod Reach
