pub mod Misuses
pub mod Numbered
pub mod Written
pub mod Standing
