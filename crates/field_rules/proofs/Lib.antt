pub mod BoxIn
pub mod MessageBytes
pub mod Again
pub mod Worked
