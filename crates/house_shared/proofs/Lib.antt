mod UserLaws
pub mod Positions
mod DealLaws
pub mod Leaving
pub mod Finding
