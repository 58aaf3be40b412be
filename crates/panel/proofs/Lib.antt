pub mod Kept
pub mod Turns
