pub mod SharedConsumer
pub mod Keeping
pub mod ConsumerSet
pub mod inner
