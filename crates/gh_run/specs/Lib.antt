pub mod Core
pub mod Cycles
pub mod Keeping
