pub mod Patterns
pub mod Summaries
pub mod Files
