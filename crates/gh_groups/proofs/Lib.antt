pub mod Checks
pub mod Examples
pub mod Law
pub mod Right
