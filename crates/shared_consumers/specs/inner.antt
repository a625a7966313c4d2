pub mod Keeping
pub mod Turns
