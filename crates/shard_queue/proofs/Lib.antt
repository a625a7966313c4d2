pub mod AtLaws
pub mod LaneLaws
pub mod SharedLaws
pub mod ClosingLaws
pub mod SeenLaws
pub mod PlainLaws
