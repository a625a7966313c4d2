pub mod Accepted
pub mod Mailbox
pub mod Events
pub mod Counts
pub mod Answers
pub mod inner
