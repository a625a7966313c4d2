pub mod Attending
pub mod Visits
pub mod inner
