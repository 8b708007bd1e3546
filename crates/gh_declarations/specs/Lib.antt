pub mod First
pub mod Inside
pub mod Lists
pub mod Names
pub mod Nodes
pub mod Patterns
pub mod Tops
