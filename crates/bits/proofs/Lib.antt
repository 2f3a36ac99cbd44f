pub mod Row
pub mod Written
mod Below
pub mod Number
pub mod Joined
pub mod Loops
pub mod Zeros
