pub mod Passed
pub mod Beside
pub mod Delivered
pub mod OnePeer
pub mod Worked
