pub mod Globs
pub mod Joined
pub mod Ranges
pub mod Fields
