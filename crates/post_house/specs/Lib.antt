pub mod Status
pub mod inner
