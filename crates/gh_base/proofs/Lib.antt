pub mod FixedConstants
pub mod FixedTexts
pub mod Places
pub mod Texts
pub mod Wanted
