pub mod Accepted
pub mod LimitsNamed
pub mod Links
pub mod Plain
pub mod Scoping
