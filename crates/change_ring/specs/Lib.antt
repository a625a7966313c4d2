pub mod Filled
pub mod Log
pub mod View
pub mod Words
pub mod inner
