pub mod Spending
pub mod Histories
pub mod Shelves
