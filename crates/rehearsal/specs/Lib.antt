pub mod Input
pub mod Rehearsal
pub mod Running
