pub mod Entries
pub mod Needs
pub mod Shown
pub mod Leveled
