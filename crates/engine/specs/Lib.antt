pub mod Engine
pub mod States
