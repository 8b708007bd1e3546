pub mod Orders
pub mod Complete
pub mod Entries
pub mod LinkOrders
pub mod Scopes
