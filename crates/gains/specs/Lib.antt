pub mod Gain
pub mod File
pub mod Chains
