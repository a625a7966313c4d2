pub mod Users
pub mod Crew
pub mod Opening
pub mod Left
pub mod inner
