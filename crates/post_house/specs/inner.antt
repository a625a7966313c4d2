pub mod Playing
pub mod Status
pub mod Telling
