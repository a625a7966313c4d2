-- Hands that are collected, and rooms for them.
use Rattle.std.proofs.Common.{◌≡◌, ◌≤◌, ◌+◌, ◌∙◌, ℕ, suc, List, [], ◌∷◌, All, Option, Some, None, MatchOption, Vec, length, map, ap, vec_len, vec_capacity, arith}
use Rattle.std.specs.Global.{Global}
use Rattle.std.proofs.lemmas.List.Elements.{All-cons, All-nil, All-map, All-weaker}
use Rattle.shard_queue.specs.declared.shared.View.{View}
use Rattle.shard_queue.specs.declared.permits.SharedLane.{SharedLane}
use Rattle.shard_queue.specs.declared.permits.EndedPermit.{EndedPermit}
use Rattle.lane_work.specs.Rooms.{AreRooms}
use Rattle.lane_work.specs.SharedLanes.{AreEndedHands}
use Rattle.lane_work.proofs.RowLaws.{ended_hand_length}

module _ {T C P : Type 0} (view : P → View T) (is_of : C → P → Type 0) where
  -- each hand has one for each lane
  pub same_lengths : (ls : List (SharedLane C)) (n : ℕ) → length ls ≡ n → (p : ℕ) (hs : List (List (EndedPermit P))) → AreEndedHands view is_of ls p hs → All (λ h. length h ≡ n) hs
  same_lengths ls n same p [] are = All-nil (λ (h : List (EndedPermit P)). length h ≡ n)
  same_lengths ls n same p (h ∷ hs) are =
      All-cons (λ (h : List (EndedPermit P)). length h ≡ n) h hs (ended_hand_length view is_of ls p h are.0 ∙ same) (same_lengths ls n same (suc p) hs are.1)

  pub hands_length : (ls : List (SharedLane C)) (n : ℕ) → length ls ≡ n → (p : ℕ) (hs : List (Vec (EndedPermit P) Global)) → AreEndedHands view is_of ls p (map (λ h. h.items) hs)
      → All (λ v. vec_len v ≡ n) hs
  hands_length ls n same p [] are = All-nil (λ (v : Vec (EndedPermit P) Global). vec_len v ≡ n)
  hands_length ls n same p (v ∷ hs) are =
      let l = ended_hand_length view is_of ls p v.items are.0 in
      let o = v.ok.0 in
      All-cons (λ (v : Vec (EndedPermit P) Global). vec_len v ≡ n) v hs (omega (arith, l, o, same)) (hands_length ls n same (suc p) hs are.1)

-- there is room in each list
pub is_room : {T : Type 0} (count each : ℕ) (lists : Vec (Vec T Global) Global) → AreRooms count each lists → All (λ v. vec_len v + each ≤ vec_capacity v) lists.items
is_room {T} count each lists are = All-weaker (λ (v : Vec T Global). (v.items ≡ []) × (each ≤ vec_capacity v)) (λ v. vec_len v + each ≤ vec_capacity v)
    (λ v h. let e : length v.items ≡ 0 = ap length h.0 in let o = v.ok.0 in let r = h.1 in omega (arith, e, o, r)) lists.items are.1

-- and nothing in any
pub is_empty : {T : Type 0} (count each : ℕ) (lists : Vec (Vec T Global) Global) → AreRooms count each lists → All (λ r. r ≡ []) (map (λ v. v.items) lists.items)
is_empty {T} count each lists are = All-map (λ (r : List T). r ≡ []) (λ (v : Vec T Global). v.items) lists.items
    (All-weaker (λ (v : Vec T Global). (v.items ≡ []) × (each ≤ vec_capacity v)) (λ v. v.items ≡ []) (λ v h. h.0) lists.items are.1)

pub match_both : {A : Type 0} {P Q : Type 0} {R S : A → Type 0} (o : Option A) → (P → Q) → ((x : A) → R x → S x) → MatchOption o P R → MatchOption o Q S
match_both None torn closed m = torn m
match_both (Some x) torn closed m = closed x m
