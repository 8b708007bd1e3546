pub mod Accepted
pub mod Check
pub mod Scope
pub mod Scoping
