pub mod Boxes
pub mod DeliveryCore
pub mod Puts
