pub mod Asking
pub mod Words
pub mod inner
