pub mod Lists
pub mod Halves
pub mod Steps
pub mod Machine
pub mod Walk
