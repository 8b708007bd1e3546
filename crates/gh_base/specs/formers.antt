pub mod list_of
