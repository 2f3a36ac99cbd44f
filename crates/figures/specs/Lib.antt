pub mod Totals
pub mod Entries
pub mod Cases
