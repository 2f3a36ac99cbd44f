pub mod Sheet
pub mod Found
pub mod Exact
pub mod Made
pub mod ReadBack
pub mod Only
pub mod Cases
