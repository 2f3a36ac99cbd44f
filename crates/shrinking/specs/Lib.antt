pub mod Shrunk
pub mod Uncut
pub mod Cut
pub mod Lines
pub mod Left
pub mod Worked
pub mod Seasons
