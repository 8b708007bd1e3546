pub mod Header
pub mod Imports
pub mod OneHead
