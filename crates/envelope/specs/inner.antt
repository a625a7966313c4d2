pub mod LocalPart
pub mod Tag
