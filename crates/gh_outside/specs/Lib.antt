pub mod MemOut
pub mod MemShelf
pub mod Outside
pub mod Shelves
