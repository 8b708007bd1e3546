pub mod Begins
pub mod Complete
pub mod OpLaws
pub mod Shapes
pub mod Sound
pub mod Whole
