pub mod BagOk
pub mod Numbers
pub mod Marks
