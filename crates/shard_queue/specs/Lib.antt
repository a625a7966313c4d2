pub mod Lane
pub mod PlainLane
pub mod Plain
pub mod Shared
pub mod Closing
pub mod SharedLane
pub mod Permits
pub mod Reply
