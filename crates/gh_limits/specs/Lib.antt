pub mod Bound
pub mod First
pub mod Inside
pub mod Limits
pub mod Nodes
pub mod Places
pub mod SameTypes
pub mod Seen
