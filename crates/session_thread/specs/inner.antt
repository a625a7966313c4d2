pub mod Entering
pub mod Hearing
