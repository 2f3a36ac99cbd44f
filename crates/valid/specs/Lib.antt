pub mod Rows
pub mod Regions
pub mod StateOk
