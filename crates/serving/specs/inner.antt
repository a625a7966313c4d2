pub mod Dealing
pub mod Ending
pub mod Faults
pub mod Visiting
