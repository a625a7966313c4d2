pub mod Agree
pub mod Begun
pub mod Refusals
pub mod Crew
pub mod Produced
