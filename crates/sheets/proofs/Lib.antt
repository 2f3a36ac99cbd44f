pub mod Finding
pub mod Passed
pub mod Exact
pub mod Joined
pub mod ReadBack
pub mod Only
pub mod Cases
