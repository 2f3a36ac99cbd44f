pub mod Union
pub mod Places
pub mod Close
pub mod InTurn
pub mod Through
pub mod Lent
pub mod Schedule
