pub mod Pages
pub mod inner
