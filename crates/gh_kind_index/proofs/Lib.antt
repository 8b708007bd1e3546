pub mod Equations
pub mod Finish
pub mod Forms
pub mod Opening
pub mod Putting
pub mod Steps
pub mod Whole
