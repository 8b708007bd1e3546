pub mod Lists
pub mod SameKeys
pub mod Entered
pub mod Qualified
pub mod Steps
pub mod Loops
pub mod Walks
pub mod Examples
