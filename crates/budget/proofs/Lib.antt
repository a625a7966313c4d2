pub mod Moves
pub mod Sums
pub mod Walk
