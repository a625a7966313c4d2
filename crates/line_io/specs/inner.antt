pub mod Buffer
pub mod CuttingLaws
pub mod WireLaws
