pub mod Examples
pub mod Folds
pub mod Representation
pub mod Substitution
pub mod Entries
pub mod Gathering
pub mod StoreExamples
