pub mod Cursors
pub mod Holding
