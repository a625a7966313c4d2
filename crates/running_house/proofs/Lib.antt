pub mod ListLaws
mod WaitLaws
mod WovenLaws
mod TalkLines
mod BackLaws
mod ToldLaws
mod AccountRefuted
mod Connections
mod FullLaws
mod KeyLaws
pub mod LogLaws
pub mod ClosedLaws
pub mod RiseLaws
pub mod WalkLaws
pub mod TextLaws
pub mod MetLaws
pub mod OrderLaws
pub mod Moves
pub mod Reports
pub mod Floors
pub mod TellLaws
pub mod Ordered
pub mod Refuted
pub mod RefusalLaws
pub mod AloneLaws
pub mod SinglesLaws
pub mod Lives
pub mod Attending
pub mod Accounts
pub mod Abandoned
