pub mod Codes
pub mod Top
