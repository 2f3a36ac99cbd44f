pub mod Said
pub mod Full
pub mod Left
pub mod Paid
pub mod Gain
pub mod Tail
