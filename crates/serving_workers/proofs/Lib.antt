pub mod Clients
pub mod Lives
mod Heard
mod Wholes
mod Mail
mod Spoken
