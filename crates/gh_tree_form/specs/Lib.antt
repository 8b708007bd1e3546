pub mod Form
pub mod Grammar
pub mod Laws
pub mod Layers
pub mod Listed
pub mod Named
