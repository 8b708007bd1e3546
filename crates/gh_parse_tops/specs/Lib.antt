pub mod Generics
pub mod Tops
pub mod Whole
