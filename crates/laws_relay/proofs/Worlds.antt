-- What events of a world leave of what the seats of connections have put and heard.
use Rattle.std.proofs.Common.{ℕ, ◌<◌, List, [], ◌∷◌, Contains, refl, sym, subst}
use Rattle.delivery_token.specs.declared.log.Noted.{Noted}
use Rattle.world.specs.World.{Config, World, Event, Step}
use Rattle.exactly_once.proofs.Grown.{heard_stays_heard}
use Rattle.exactly_once.proofs.Lanes.{IsNoPutOf, put_by, step_puts}
use Rattle.laws_relay.proofs.Moving.{no_copy_grows, same_lanes}
use Rattle.laws_relay.proofs.Seated.{SentGrows}
use Rattle.laws_relay.specs.RecordLaws.{IsStill}

-- more was heard at each seat, and none of the first seats put a copy
pub record Bears (connections : ℕ) (w v : World) : Type 0 where
  pub heard : (seat : ℕ) (r : Noted) → Contains (w.heard seat) r → Contains (v.heard seat) r
  pub sent : (seat : ℕ) → seat < connections → (n : ℕ) → SentGrows n (put_by w seat) (put_by v seat)

pub bears_then : (connections : ℕ) (w u v : World) → Bears connections w u → Bears connections u v → Bears connections w v
bears_then connections w u v a b = record {
  heard = λ seat r c. b.heard seat r (a.heard seat r c);
  sent = λ seat l n these t h. b.sent seat l n these t (a.sent seat l n these t h);
}

pub bears_same : (connections : ℕ) (w : World) → Bears connections w w
bears_same connections w = record { heard = λ seat r c. c; sent = λ seat l n these t h. h }

pub bears_still : (connections : ℕ) (w v : World) → IsStill w v → Bears connections w v
bears_still connections w v s = record {
  heard = λ seat r c. subst (λ (heard : ℕ → List Noted). Contains (heard seat) r) (sym s.1) c;
  sent = λ seat l n. no_copy_grows seat w v (same_lanes seat w v s.0) n;
}

pub step_hears : (k : Config) (w : World) (e : Event) (v : World) (seat : ℕ) (r : Noted) → Step k w e v → Contains (w.heard seat) r → Contains (v.heard seat) r
step_hears k w e v seat r step c = heard_stays_heard k w (e ∷ []) v seat r (v, step, refl) c

pub bears_step : (k : Config) (connections : ℕ) (w : World) (e : Event) (v : World) → ((seat : ℕ) → seat < connections → IsNoPutOf seat e) → Step k w e v → Bears connections w v
bears_step k connections w e v others step = record {
  heard = λ seat r c. step_hears k w e v seat r step c;
  sent = λ seat l n. no_copy_grows seat w v (step_puts k w e v seat (others seat l) step) n;
}
