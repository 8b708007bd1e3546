pub mod Variables
pub mod Patterns
pub mod Spans
pub mod LeftSides
