pub mod Ends
pub mod Loop
pub mod NamesSound
pub mod Sound
