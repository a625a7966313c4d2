pub mod Answers
pub mod inner
pub mod Room
