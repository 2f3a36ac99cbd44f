pub mod Clears
pub mod Gains
pub mod Shown
pub mod Worked
