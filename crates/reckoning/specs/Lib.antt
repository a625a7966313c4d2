pub mod Gathered
pub mod Closing
pub mod Balancing
pub mod Shelves
pub mod Histories
pub mod inner
