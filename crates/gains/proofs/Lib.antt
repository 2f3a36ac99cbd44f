pub mod Counting
pub mod Counted
pub mod Last
pub mod Chains
pub mod News
pub mod Blocks
pub mod Split
