pub mod Ops
pub mod Marks
pub mod Knot
pub mod Decls
pub mod Exps
pub mod Reading
pub mod Wholes
