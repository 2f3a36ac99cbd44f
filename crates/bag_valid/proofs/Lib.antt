pub mod Apart
pub mod Bag
pub mod Fields
pub mod Steps
