-- What a seat has put into the lanes stays its own where a step of the world puts none of its copies there.
use Rattle.std.proofs.Common.{◌≡◌, ℕ, ◌⊎◌, inl, inr, [], ◌∷◌, ◌++◌, ap, sym, subst}
use Rattle.delivery_token.specs.declared.Job.{Job}
use Rattle.shard_queue.specs.Lane.{Lane}
use Rattle.shard_queue.specs.declared.lane.Entry.TheVariants.{End}
use Rattle.world.specs.World.{World}
use Rattle.world.proofs.Base.{Every, every_append}
use Rattle.exactly_once.proofs.Lanes.{PutsNoCopy, put_by}
use Rattle.laws_relay.proofs.Seated.{IsOneOf, SentGrows}

pub no_copy_grows : (seat : ℕ) (w v : World) → PutsNoCopy seat w v → (n : ℕ) → SentGrows n (put_by w seat) (put_by v seat)
no_copy_grows seat w v h n these t all = by (h t)
  where
    by : (put_by v seat t ≡ put_by w seat t) ⊎ (put_by v seat t ≡ put_by w seat t ++ End seat ∷ []) → Every (IsOneOf n these) (put_by v seat t)
    by (inl same) = subst (Every (IsOneOf n these)) (sym same) all
    by (inr more) = subst (Every (IsOneOf n these)) (sym more) (every_append (IsOneOf n these) (put_by w seat t) (End seat ∷ []) all (tt, tt))

pub same_lanes : (seat : ℕ) (w v : World) → v.lane ≡ w.lane → PutsNoCopy seat w v
same_lanes seat w v e t = inl (ap (λ (lane : ℕ → Lane Job). (lane t).sent seat) e)
