pub mod Carried
pub mod Holds
pub mod rows
