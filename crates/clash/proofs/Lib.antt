pub mod Made
pub mod Relation
