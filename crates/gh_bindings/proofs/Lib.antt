pub mod Examples
pub mod Failing
pub mod Grows
pub mod Keeping
pub mod Plain
pub mod Relation
