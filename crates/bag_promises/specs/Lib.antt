pub mod Clears
pub mod Gains
pub mod Worked
