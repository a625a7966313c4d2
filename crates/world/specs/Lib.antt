pub mod World
pub mod Law
pub mod Known
pub mod First
pub mod Refusals
