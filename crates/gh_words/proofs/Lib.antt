pub mod Fronts
pub mod Splits
pub mod Texts
pub mod WordExamples
