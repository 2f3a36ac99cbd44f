pub mod Box
pub mod Message
pub mod Rules
pub mod Replies
pub mod MessageBytes
pub mod BoxIn
pub mod Worked
