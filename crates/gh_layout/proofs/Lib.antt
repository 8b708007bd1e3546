pub mod Examples
pub mod Keeping
pub mod Laid
pub mod Stacks
