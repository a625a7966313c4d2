-- What a call does to the delivery core and to each world for which it stands.
use Rattle.std.specs.Prelude.{◌≡◌, ℕ, ◌+◌, length, min, IsSome}
use Rattle.world.specs.World.{Config, World}
use Rattle.delivery_core.specs.Changes.{SameCounts, SameDelivery}
use Rattle.delivery_core.specs.DeliveryCore.{DeliveryCore, behind, client_of, view_of}
use Rattle.delivery_core.specs.Stands.{StandsFor}
use Rattle.imap_session.specs.Exchange.{Call, Answer, Feed, Fed}
use Rattle.imap_session.specs.Store.{ViewAfter}
use Rattle.house.specs.declared.core_store.CoreStore.{CoreStore}
use Rattle.house.specs.Meets.{Meets}

-- A Feed that showed changes: session n had entered a mailbox, it was shown as many as it was behind the log, at most so many, and it is behind
-- by so many fewer.
abbrev pub CatchesUp : ℕ → DeliveryCore → Call → Answer → DeliveryCore → Type 0
CatchesUp n old (Feed limit) (Fed view changes) new = IsSome (client_of old n) × (length changes ≡ min limit (behind old n))
    × (behind new n + length changes ≡ behind old n)
CatchesUp n old call answer new = Unit {0}

-- A call of the session that is served now, with its answer.
pub record Serves (old : CoreStore) (call : Call) (answer : Answer) (new : CoreStore) : Type 0 where
  -- the session stays
  pub same : new.session ≡ old.session
  -- from each world for which the core stood, the call leads to one for which it stands
  pub meets : (k : Config) (w : World) → StandsFor k old.core w → (v : World) × Meets k old.session w call answer v × StandsFor k new.core v
  -- nothing changed of what lies between seats and mailboxes
  pub rest : SameDelivery old.core new.core
  pub counts : SameCounts old.core new.core
  -- what the session was shown
  pub view : ViewAfter (view_of old.core old.session) answer (view_of new.core new.session)
  -- and how far it is behind
  pub behind : CatchesUp old.session old.core call answer new.core
