pub mod Headers
pub mod FieldSteps
pub mod JoinedLaws
pub mod GlobLaw
pub mod OpeningParts
pub mod FlagWords
pub mod Spans
pub mod RowLengths
