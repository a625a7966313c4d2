pub mod Locks
pub mod Life
pub mod ByHistory
pub mod inner
