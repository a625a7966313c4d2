pub mod Attending
pub mod Flushing
pub mod Sending
pub mod Showing
pub mod Living
