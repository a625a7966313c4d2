pub mod Announcing
pub mod Faults
pub mod inner
pub mod Kept
pub mod Left
pub mod Producers
