pub mod Fixed
pub mod FixedNames
pub mod Ids
pub mod Refusals
pub mod Stored
pub mod Table
pub mod formers
