-- One group is changed, and so is each list that is read off the groups.
use Rattle.std.proofs.Common.{◌≡◌, ◌∙◌, ℕ, zero, suc, List, [], ◌∷◌, map, get_or, set, ap, arith, refl, Option, Bool, ◌||◌}
use Rattle.std.specs.List.{list_any}
use Rattle.std.proofs.Math.Seq.{map-set_same}
use Rattle.std.proofs.lemmas.List.{map-set}
use Rattle.shard_queue.specs.PlainLane.{PlainLane}
use Rattle.delivery_token.specs.declared.Job.{Job}
use Rattle.mailbox.specs.Mailbox.{Mailbox}
use Rattle.world.specs.declared.hand.Hand.{Hand}
use Rattle.delivery_core.specs.DeliveryCore.{DeliveryCore}
use Rattle.delivery_core.specs.Stands.{EachAt}
use Rattle.delivery_core.specs.declared.client.Client.{Client}
use Rattle.delivery_core.specs.declared.group.Seat.{Seat}
use Rattle.delivery_core.specs.declared.group.Shard.{Shard}
use Rattle.delivery_core.specs.inner.DeliveryCore.{in_groups}

-- what a group has stands at its position
pub read_at : {A B : Type 0} (f : A → B) (xs : List A) (i : ℕ) (x : A) → x ≡ get_or xs i x → f x ≡ get_or (map f xs) i (f x)
read_at f [] i x there = refl
read_at f (y ∷ ys) zero x there = ap f there
read_at f (y ∷ ys) (suc i) x there = read_at f ys i x there

-- what the group keeps, all keep
pub kept_at : {A B : Type 0} (f : A → B) (xs : List A) (i : ℕ) (x y : A) → x ≡ get_or xs i x → f y ≡ f x → map f (set xs i y) ≡ map f xs
kept_at f xs i x y there same = map-set_same f xs i y x (same ∙ ap f there)

-- what each group has, by position
pub read_each : {A B : Type 0} (f : A → B) (P : ℕ → B → Type 0) (xs : List A) → EachAt (λ i a. P i (f a)) xs → EachAt P (map f xs)
read_each f P [] all i d l = absurd (omega arith)
read_each f P (x ∷ xs) all zero d l = all zero x (omega arith)
read_each f P (x ∷ xs) all (suc i) d l = read_each f (λ j. P (suc j)) xs (λ j a m. all (suc j) a (omega arith)) i d (omega arith)

-- whether any group has what passes
pub any_read : {A B : Type 0} (p : B → Bool) (f : A → B) (xs : List A) → list_any p (map f xs) ≡ list_any (λ x. p (f x)) xs
any_read p f [] = refl
any_read p f (x ∷ xs) = ap (λ b. p (f x) || b) (any_read p f xs)

-- a shard's lane is changed, and its hand is not
pub with_lane : (shards : List Shard) (seats : List Seat) (boxes : List Mailbox) (clients : List (Option Client)) (i : ℕ) (x y : Shard) → x ≡ get_or shards i x → y.hand ≡ x.hand
    → in_groups (set shards i y) seats boxes clients ≡ record (in_groups shards seats boxes clients) { lanes = set (map (λ (s : Shard). s.lane) shards) i y.lane }
with_lane shards seats boxes clients i x y there same =
    ap (λ (ls : List (PlainLane Job)). let h : DeliveryCore = record (in_groups (set shards i y) seats boxes clients) { lanes = ls } in h) (map-set (λ (s : Shard). s.lane) shards i y)
    ∙ ap (λ (hs : List Hand). let h : DeliveryCore = record (in_groups shards seats boxes clients) { lanes = set (map (λ (s : Shard). s.lane) shards) i y.lane; hands = hs } in h) (kept_at (λ (s : Shard). s.hand) shards i x y there same)
