pub mod Kept
pub mod Running
pub mod Script
