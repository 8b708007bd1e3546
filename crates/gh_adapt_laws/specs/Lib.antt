pub mod Converts
pub mod PairTypes
