pub mod Compiled
pub mod Follows
pub mod Numbers
pub mod Sizes
