pub mod Binders
pub mod KindIndex
pub mod Levels
pub mod Laws
