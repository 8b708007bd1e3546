pub mod Beside
pub mod Laws
pub mod RowByRow
pub mod Rules
