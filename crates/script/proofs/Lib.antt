mod Words
pub mod ScriptLaws
mod KeptLaws
pub mod RunLaws
pub mod SessionLaws
pub mod EventLaws
pub mod Once
pub mod TellingLaws
pub mod Programs
pub mod ObjectLaws
pub mod Parts
pub mod Begins
pub mod Greeted
pub mod Printed
pub mod Refuted
