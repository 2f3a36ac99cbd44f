pub mod Listing
pub mod Sounds
pub mod Afresh
pub mod Overwriting
pub mod Shortening
pub mod Whole
