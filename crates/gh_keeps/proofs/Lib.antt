pub mod Bridge
pub mod Orders
pub mod Rises
