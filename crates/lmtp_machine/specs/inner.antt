pub mod Calls
pub mod Ending
pub mod LmtpMachine
pub mod Standing
