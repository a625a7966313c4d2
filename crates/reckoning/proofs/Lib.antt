pub mod Laying
pub mod Parts
pub mod Hands
pub mod Accounts
pub mod Balanced
pub mod Spent
mod Numbered
pub mod Histories
