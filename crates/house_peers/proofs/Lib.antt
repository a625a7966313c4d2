pub mod Copies
pub mod Keys
pub mod Connections
pub mod ConnectionPutting
pub mod Efforts
pub mod Arrivals
mod Waiting
pub mod Going
pub mod Seating
pub mod Rising
pub mod SessionPutting
pub mod Ended
