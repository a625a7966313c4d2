pub mod Choosing
pub mod KeyCode
pub mod KeysSaid
pub mod Asking
pub mod Letters
pub mod Searching
