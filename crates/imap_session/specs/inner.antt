pub mod Appends
pub mod Response
pub mod Seen
pub mod Store
pub mod Lines
pub mod Copies
