pub mod AtTypes
pub mod BimapTyped
pub mod Choosing
pub mod Converting
pub mod FlatTypes
pub mod PairKinds
pub mod PairParts
pub mod PairTyped
