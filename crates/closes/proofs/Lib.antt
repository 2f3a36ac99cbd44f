pub mod Plan
pub mod Computed
pub mod Worked
pub mod Lent
