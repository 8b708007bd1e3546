pub mod Loops
pub mod Examples
