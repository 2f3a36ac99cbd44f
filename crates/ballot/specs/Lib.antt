pub mod Item
pub mod Table
pub mod Sound
pub mod Reader
