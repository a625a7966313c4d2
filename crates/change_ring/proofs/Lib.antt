pub mod Crosses
pub mod LogLaws
pub mod Memory
pub mod RangeLaws
pub mod Sharing
pub mod Turning
pub mod WindowLaws
