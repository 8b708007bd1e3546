pub mod Lefts
pub mod Operators
pub mod Wholes
