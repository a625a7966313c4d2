pub mod Closing
pub mod Leaving
pub mod inner
pub mod Finished
