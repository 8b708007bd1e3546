pub mod Acts
pub mod Core
pub mod Laws
pub mod Meaning
pub mod Source
