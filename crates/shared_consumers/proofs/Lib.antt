mod KeepLaws
pub mod ConsumerSetLaws
