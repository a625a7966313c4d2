pub mod Promise
pub mod Script
pub mod Wrote
pub mod Leaving
pub mod Telling
pub mod Runs
pub mod inner
pub mod rows
