pub mod Kinds
pub mod Cells
pub mod Settling
pub mod Orders
pub mod Faults
