pub mod Representation
pub mod Terms
pub mod formers
pub mod Keys
pub mod Stores
