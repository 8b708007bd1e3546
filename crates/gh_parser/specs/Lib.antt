pub mod Readers
pub mod Parse
pub mod Faults
pub mod Gives
pub mod Laws
