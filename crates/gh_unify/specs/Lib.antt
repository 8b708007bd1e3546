pub mod Types
pub mod Kept
pub mod Causes
pub mod Tables
pub mod Levels
pub mod Steps
