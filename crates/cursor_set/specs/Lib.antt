pub mod Cursors
pub mod Gap
pub mod Leaving
pub mod Legal
pub mod Lines
pub mod Opened
pub mod inner
