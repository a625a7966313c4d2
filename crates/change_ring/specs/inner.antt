pub mod Filled
pub mod Ownership
