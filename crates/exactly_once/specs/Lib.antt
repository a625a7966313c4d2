pub mod AnyPromise
pub mod Promise
pub mod Appended
pub mod Found
pub mod rows
