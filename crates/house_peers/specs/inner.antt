pub mod ConnectionStands
pub mod ConnectionSteps
pub mod Few
pub mod Meeting
pub mod Taking
