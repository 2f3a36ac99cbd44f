pub mod Cleared
pub mod Own
pub mod Gone
pub mod Worked
