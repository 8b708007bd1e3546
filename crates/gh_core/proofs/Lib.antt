pub mod BindingExamples
pub mod Close
pub mod Examples
pub mod Nameless
pub mod Runs
pub mod Shapes
pub mod TypingExamples
pub mod OneType
