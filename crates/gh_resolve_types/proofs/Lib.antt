pub mod TypesAt
pub mod VariablesAt
pub mod Lengths
