pub mod Fronts
pub mod LineExamples
pub mod Rooms
