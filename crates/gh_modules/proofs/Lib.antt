pub mod PatternsAt
pub mod DeclAt
pub mod Examples
