pub mod Plan
pub mod Runs
pub mod Needed
pub mod Worked
pub mod Lent
