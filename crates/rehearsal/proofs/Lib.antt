pub mod Taking
pub mod States
pub mod Sizes
pub mod Playing
