pub mod Follow
pub mod Logs
pub mod Parts
pub mod Standing
pub mod Uids
