pub mod Shown
pub mod Living
pub mod Spoken
pub mod SinceSelect
pub mod ByHistory
