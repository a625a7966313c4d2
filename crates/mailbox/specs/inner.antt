pub mod Choices
pub mod Accepted
pub mod Events
pub mod Letters
pub mod Marks
pub mod Seen
pub mod Stands
