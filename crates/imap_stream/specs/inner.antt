pub mod Attending
pub mod Visits
