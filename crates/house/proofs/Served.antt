-- What the layer above takes from a call of the session: where the core stood for a world, it is that session's call there.
use Rattle.std.proofs.Common.{◌≡◌, ℕ, List, [], ◌∷◌, ◌∙◌, sym, subst}
use Rattle.imap_session.proofs.Carried.{Carries}
use Rattle.imap_session.specs.Exchange.{Event}
use Rattle.imap_session.specs.Store.{Met}
use Rattle.world.specs.World.{Config, World}
use Rattle.delivery_core.specs.Changes.{SameDelivery}
use Rattle.delivery_core.specs.DeliveryCore.{DeliveryCore}
use Rattle.delivery_core.specs.Stands.{StandsFor}
use Rattle.house.specs.declared.core_store.CoreStore.{CoreStore}
use Rattle.house.specs.CoreStore.{Serves}
use Rattle.house.specs.Meets.{Meets}
use Rattle.house.proofs.Serving.{same_delivery}

-- a store that serves session n, and stands for a world
pub record IsServing (k : Config) (n : ℕ) (store : CoreStore) (w : World) : Type 0 where
  pub session : store.session ≡ n
  pub stands : StandsFor k store.core w

pub carries : (k : Config) (n : ℕ) → Carries {S = CoreStore} {T = World} Serves (λ w call answer v. Meets k n w call answer v) (IsServing k n)
carries k n old new call answer w served is =
    let m = served.meets k w is.stands in
    (m.0, subst (λ i. Meets k i w call answer m.0) is.session m.1, record { session = served.same ∙ is.session; stands = m.2 })

-- ---- over several calls

delivery_then : (a b c : DeliveryCore) → SameDelivery a b → SameDelivery b c → SameDelivery a c
delivery_then a b c p q = record {
  lanes = q.lanes ∙ p.lanes;
  hands = q.hands ∙ p.hands;
  replies = q.replies ∙ p.replies;
  heard = q.heard ∙ p.heard;
  next = q.next ∙ p.next;
}

pub met_delivery : (old new : CoreStore) (events : List Event) → Met Serves old events new → SameDelivery old.core new.core
met_delivery old new [] met = subst (λ (d : CoreStore). SameDelivery old.core d.core) (sym met) (same_delivery old.core)
met_delivery old new (e ∷ events) met = delivery_then old.core met.0.core new.core met.1.rest (met_delivery met.0 new events met.2)
