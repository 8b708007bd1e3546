pub mod Entries
pub mod Follows
pub mod Laws
pub mod Layout
pub mod Levels
pub mod Roles
