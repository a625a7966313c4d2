-- The settings as the world's.
use Rattle.std.specs.Prelude.{◌≡◌, max}
use Rattle.delivery_core.specs.declared.steps.Settings.{Settings}
use Rattle.world.specs.World.{Config}

pub record IsFor (k : Config) (s : Settings) : Type 0 where
  pub seats : k.seats ≡ s.seats
  pub shards : k.shards ≡ s.shards
  pub mailboxes : k.mailboxes ≡ s.mailboxes
  pub depth : k.depth ≡ s.depth
  pub messages : k.messages ≡ s.limits.messages
  pub ring : k.ring ≡ s.limits.ring
  pub ring_max : k.ring_max ≡ max s.limits.ring s.limits.ring_max
  pub first_uid : k.first_uid ≡ s.first_uid
  pub uidvalidity : k.uidvalidity ≡ s.uidvalidity
  pub sessions : k.sessions ≡ s.sessions
