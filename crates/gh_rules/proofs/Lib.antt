pub mod Alongside
pub mod RowByRow
