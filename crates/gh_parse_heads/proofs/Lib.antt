pub mod Complete
pub mod ImportsComplete
pub mod ImportsSound
pub mod ImportsWhole
pub mod OneHead
pub mod Sound
pub mod Whole
