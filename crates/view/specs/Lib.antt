pub mod View
pub mod Effect
pub mod Good
pub mod Ready
pub mod Stepped
