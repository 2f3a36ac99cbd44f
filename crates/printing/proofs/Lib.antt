pub mod Finding
pub mod Answering
pub mod Chosen
pub mod ReadsBack
pub mod Measuring
