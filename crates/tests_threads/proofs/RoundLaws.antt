-- What the tests' round rests on.
use Rattle.std.proofs.Common.{Bor, Option, Some, slice_get, ◌≡◌, ◌≤◌, ◌+◌, ◌∙◌, ◌++◌, ℕ, suc, sym, subst, ap, List, [], ◌∷◌, All, Vec, Global, length, map, append_assoc, vec_len, vec_capacity, arith}
use Rattle.std.specs.Slice.{IsItemAt}
use Rattle.std.proofs.lemmas.Option.{slice_get-get_or}
use Rattle.std.proofs.lemmas.List.{length-map}
use Rattle.std.proofs.lemmas.List.Elements.{All-cons, All-head, All-map, All-nil, All-tail, All-weaker}
use Rattle.delivery_token.specs.declared.Job.{Job}
use Rattle.shard_queue.specs.Permits.{Ended}
use Rattle.shard_queue.specs.Permits.{ShardQueue}
use Rattle.shard_queue.specs.Permits.{ConsumerPermit}
use Rattle.lane_work.specs.Rooms.{AreRooms}
use Rattle.lane_work.specs.LanePermits.{EndedRows}
use Rattle.lane_work.proofs.RowLaws.{none_ended}
use Rattle.shard_queue.specs.Permits.{is_of, view}
use Rattle.lane_work.specs.declared.consumer.Consumed.{Consumed}
use Rattle.house_shared.specs.Crew.{AllAt, IsPost}
use Rattle.house_shared.specs.declared.shared.HouseShared.{HouseShared}
use Rattle.house_shared.specs.declared.shared.Post.{Post}
use Rattle.tests_threads.specs.inner.Rounds.{IsOwnPost}

-- each post is of its own number
pub own_posts : {B : Type 0} (shared : HouseShared B) (n : ℕ) (ps : List (Post B)) → AllAt (IsPost shared) n ps → All (IsOwnPost shared) ps
own_posts shared n [] all = All-nil (IsOwnPost shared)
own_posts shared n (p ∷ ps) all = All-cons (IsOwnPost shared) p ps (record { is = subst (λ k. IsPost shared k p) (sym all.0.number) all.0 }) (own_posts shared (suc n) ps all.1)

-- there is room in each list
pub is_room : (count each n : ℕ) (lists : Vec (Vec (Ended Job) Global) Global) → AreRooms count each lists → n ≡ each → All (λ v. vec_len v + n ≤ vec_capacity v) lists.items
is_room count each n lists are same = All-weaker (λ (v : Vec (Ended Job) Global). (v.items ≡ []) × (each ≤ vec_capacity v)) (λ v. vec_len v + n ≤ vec_capacity v)
    (λ v h. let e : length v.items ≡ 0 = ap length h.0 in let o = v.ok.0 in let r = h.1 in omega (arith, e, o, r, same)) lists.items are.1

-- and nothing in any
pub none_yet : (lanes : List (ShardQueue Job)) (count each : ℕ) (lists : Vec (Vec (Ended Job) Global) Global) → AreRooms count each lists → count ≡ length lanes → EndedRows lanes (map (λ v. v.items) lists.items)
none_yet lanes count each lists are same =
    let m = length-map lists.items (λ v. v.items) in
    let n = are.0 in
    let o = lists.ok.0 in
    none_ended view is_of lanes (map (λ v. v.items) lists.items) (omega (arith, m, n, o, same))
    (All-map (λ (r : List (Ended Job)). r ≡ []) (λ (v : Vec (Ended Job) Global). v.items) lists.items
    (All-weaker (λ (v : Vec (Ended Job) Global). (v.items ≡ []) × (each ≤ vec_capacity v)) (λ v. v.items ≡ []) (λ v h. h.0) lists.items are.1))

-- one more permit was taken from the front
pub permit_next : {B : Type 0} (permits more : List (ConsumerPermit Job)) (consumed less : List (Consumed B)) (one : Consumed B) (all : List (ConsumerPermit Job)) → consumed ≡ one ∷ less → more ≡ permits ++ one.permit ∷ []
    → permits ++ map (λ c. c.permit) consumed ≡ all → more ++ map (λ c. c.permit) less ≡ all
permit_next permits more consumed less one all split grew so =
    ap (λ l. l ++ map (λ c. c.permit) less) grew ∙ append_assoc permits (one.permit ∷ []) (map (λ c. c.permit) less) ∙ ap (λ l. permits ++ map (λ c. c.permit) l) (sym split) ∙ so

-- the last is taken away
pub popped : {A : Type 0} (P : A → Type 0) (all rest : List A) (x : A) → all ≡ rest ++ x ∷ [] → All P all → All P rest × P x
popped {A} P all rest x is so = go rest (subst (All P) is so) where
  go : (xs : List A) → All P (xs ++ x ∷ []) → All P xs × P x
  go [] all = (All-nil P, All-head P x [] all)
  go (y ∷ ys) all = let r = go ys (All-tail P y (ys ++ x ∷ []) all) in (All-cons P y ys (All-head P y (ys ++ x ∷ []) all) r.0, r.1)

pub alone : {A : Type 0} (P : A → Type 0) (x : A) → P x → All P (x ∷ [])
alone P x so = All-cons P x [] so (All-nil P)

-- what was lent of a list at a position
pub lent_at : {X : Type 0} (xs ys : List X) (i n : ℕ) (r : Option (Bor X)) (b : Bor X) → IsItemAt ys i r → r ≡ Some b → ys ≡ xs → i ≡ n → slice_get xs n ≡ Some b.now
lent_at {X} xs ys i n r b at is same here =
    let there = subst (IsItemAt ys i) is at in
    let found : slice_get ys i ≡ Some b.now = slice_get-get_or ys i b.now there.3.0 ∙ ap (λ (x : X). Some x) (sym there.1) in
    subst (λ (l : List X). slice_get l n ≡ Some b.now) same (subst (λ (k : ℕ). slice_get ys k ≡ Some b.now) here found)
