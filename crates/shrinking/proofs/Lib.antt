pub mod Judged
pub mod Left
pub mod Cutting
pub mod Printing
pub mod Worked
pub mod Seasons
