pub mod Charging
pub mod Counting
pub mod Limits
pub mod inner
