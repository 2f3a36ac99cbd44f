pub mod Kept
pub mod Passes
pub mod Runs
pub mod Claims
pub mod Trials
pub mod Cases
