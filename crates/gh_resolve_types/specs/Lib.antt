pub mod TypeVariables
pub mod Types
