pub mod Facts
pub mod Peers
pub mod Ready
pub mod Only
pub mod Masks
pub mod Regions
pub mod HashSet
pub mod Fields
