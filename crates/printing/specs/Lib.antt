pub mod Board
pub mod Written
pub mod Measured
pub mod ReadsBack
