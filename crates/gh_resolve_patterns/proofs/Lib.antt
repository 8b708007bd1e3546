pub mod PatternsAt
pub mod VariablesAt
pub mod SpansAt
pub mod LeftSidesAt
pub mod Lengths
