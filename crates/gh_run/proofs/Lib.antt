pub mod Appended
pub mod Cycles
pub mod Keeping
pub mod Prefixes
pub mod Runs
pub mod Starts
