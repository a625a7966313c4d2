-- What a report that agrees says of each worker and of each copy.
use Rattle.std.proofs.Common.{◌≡◌, ◌⊎◌, inl, inr, ℕ, zero, suc, ◌+◌, ◌-◌, ◌<◌, ◌≤◌, ◌==◌, Bool, true, false, cond, if◌then◌else◌, List, [], ◌∷◌, ◌∙◌, Option, None, Some, length, map, slice_index_or, refl, sym, ap, subst, Contains, arith}
use Rattle.std.specs.List.{cons_option, filter, filter_map}
use Rattle.std.proofs.lemmas.List.Elements.{All-map}
use Rattle.std.proofs.Math.Nat.{mod-lt}
use Rattle.std.proofs.lemmas.Bool.Decides.{Decides-eqb}
use Rattle.std.proofs.lemmas.List.{length-map}
use Rattle.delivery_token.specs.declared.CopyKey.{CopyKey}
use Rattle.delivery_token.specs.declared.Job.{Job}
use Rattle.delivery_token.specs.declared.Verdict.{Verdict}
use Rattle.delivery_token.specs.declared.Verdict.TheVariants.{Stored}
use Rattle.delivery_token.specs.declared.log.Noted.{Noted}
use Rattle.delivery_token.specs.Copies.{stored_for, stored_pair}
use Rattle.envelope.specs.Names.{shard_of}
use Rattle.shard_queue.specs.declared.lane.Entry.{Entry}
use Rattle.shard_queue.specs.declared.lane.Entry.TheVariants.{Item}
use Rattle.shard_queue.specs.Closing.{IsWhole}
use Rattle.shard_queue.specs.Lane.{of, producer}
use Rattle.shard_queue.specs.Permits.{history, numbers}
use Rattle.running_house.proofs.ListLaws.{contains_cases, contains_none, first_of, later_of}
use Rattle.running_house.proofs.LogLaws.{account_is_of_lines, stored_is_there}
use Rattle.workers_sync.specs.Carried.{judged_of}
use Rattle.lane_work.specs.Account.{AreAccountedFor, told}
use Rattle.reckoning.proofs.Parts.{some_at}
use Rattle.running_house.specs.Agree.{Agrees, accepted_of, answers, histories, notes_of, replies_of}
use Rattle.running_house.specs.Plan.{connections_of, premises_for, producers_in}
use Rattle.running_house.specs.Tells.{AccountOf, IsStored}
use Rattle.running_house.specs.declared.plan.Plan.{Plan}
use Rattle.running_house.specs.Report.{Report}

-- ---- lists

pub passes : {A : Type 0} (f : A → Bool) (xs : List A) (x : A) → Contains xs x → f x ≡ true → Contains (filter f xs) x
passes f [] x c is = absurd (contains_none c)
passes {A} f (y ∷ ys) x c is = by_test (λ later. passes f ys x later is) (f y) refl (contains_cases x y ys c) where
  by_test : (Contains ys x → Contains (filter f ys) x) → (b : Bool) → f y ≡ b → (y ≡ x) ⊎ Contains ys x → Contains (filter f (y ∷ ys)) x
  by_test go true test (inl e) = subst (λ (z : Bool). Contains (cond z (y ∷ filter f ys) (filter f ys)) x) (sym test) (subst (λ (z : A). Contains (y ∷ filter f ys) z) e (first_of y (filter f ys)))
  by_test go true test (inr later) = subst (λ (z : Bool). Contains (cond z (y ∷ filter f ys) (filter f ys)) x) (sym test) (later_of x y (filter f ys) (go later))
  by_test go false test (inl e) = absurd (let a : f x ≡ false = subst (λ (z : A). f z ≡ false) e test in cc)
  by_test go false test (inr later) = subst (λ (z : Bool). Contains (cond z (y ∷ filter f ys) (filter f ys)) x) (sym test) (go later)

pub passed : {A : Type 0} (f : A → Bool) (xs : List A) (x : A) → Contains (filter f xs) x → Contains xs x
passed f [] x c = absurd (contains_none c)
passed {A} f (y ∷ ys) x c = by_test (passed f ys x) (f y) refl where
  by_test : (Contains (filter f ys) x → Contains ys x) → (b : Bool) → f y ≡ b → Contains (y ∷ ys) x
  by_test go true test = elim (contains_cases x y (filter f ys) (subst (λ (z : Bool). Contains (cond z (y ∷ filter f ys) (filter f ys)) x) test c)) [
    | inl e ↦ subst (λ (z : A). Contains (y ∷ ys) z) e (first_of y ys)
    | inr later ↦ later_of x y ys (go later)
  ]
  by_test go false test = later_of x y ys (go (subst (λ (z : Bool). Contains (cond z (y ∷ filter f ys) (filter f ys)) x) test c))

pub found_in : {A B : Type 0} (h : A → Option B) (xs : List A) (x : A) (y : B) → Contains xs x → h x ≡ Some y → Contains (filter_map h xs) y
found_in h [] x y c is = absurd (contains_none c)
found_in {A} {B} h (z ∷ zs) x y c is = by_case (λ later. found_in h zs x y later is) (h z) refl (contains_cases x z zs c) where
  by_case : (Contains zs x → Contains (filter_map h zs) y) → (o : Option B) → h z ≡ o → (z ≡ x) ⊎ Contains zs x → Contains (filter_map h (z ∷ zs)) y
  by_case go (Some v) here (inl e) =
      let same : v ≡ y = (let both : Some v ≡ Some y = sym here ∙ ap h e ∙ is in cc) in
      subst (λ (o : Option B). Contains (cons_option o (filter_map h zs)) y) (sym here) (subst (λ (w : B). Contains (v ∷ filter_map h zs) w) same (first_of v (filter_map h zs)))
  by_case go (Some v) here (inr later) = subst (λ (o : Option B). Contains (cons_option o (filter_map h zs)) y) (sym here) (later_of y v (filter_map h zs) (go later))
  by_case go None here (inl e) = absurd (let both : None ≡ Some y = sym here ∙ ap h e ∙ is in cc)
  by_case go None here (inr later) = subst (λ (o : Option B). Contains (cons_option o (filter_map h zs)) y) (sym here) (go later)

-- of each list at its position
pub of_at : (p : ℕ) (hs : List (List (Entry Job))) (lane : ℕ) → slice_index_or (map (of p) hs) lane [] ≡ of p (slice_index_or hs lane [])
of_at p [] lane = refl
of_at p (h ∷ hs) zero = refl
of_at p (h ∷ hs) (suc lane) = of_at p hs lane

pub so_many : (k n : ℕ) → length (numbers k n) ≡ n
so_many k zero = refl
so_many k (suc n) = ap suc (so_many (suc k) n)

pub less_or_not : (p n : ℕ) → (p < n) ⊎ (n ≤ p)
less_or_not zero zero = inr (omega arith)
less_or_not zero (suc n) = inl (omega arith)
less_or_not (suc p) zero = inr (omega arith)
less_or_not (suc p) (suc n) = elim (less_or_not p n) [ inl h ↦ inl (omega (arith, h)) | inr h ↦ inr (omega (arith, h)) ]

-- ---- the laws

pub accounts_are_of_lines : (plan : Plan) (r : Report) → Agrees plan r → (p : ℕ) → p < length (connections_of plan) → AccountOf plan r p
accounts_are_of_lines plan r agrees p under =
    account_is_of_lines (premises_for plan) p (slice_index_or (connections_of plan) p []) (slice_index_or (replies_of r) p []) (slice_index_or (notes_of r) p []) (slice_index_or (answers r) p [])
    (map (of p) (histories r)) (agrees.accounts p under)

-- a producer is a worker or a session, and accounts for its copies
accounted : (plan : Plan) (r : Report) → Agrees plan r → (p : ℕ) → p < producers_in plan
    → (copies : List (Job × Verdict)) × AreAccountedFor (premises_for plan) p copies (slice_index_or (notes_of r) p []) (slice_index_or (answers r) p []) (map (of p) (histories r))
accounted plan r agrees p under = elim (less_or_not p (length plan.workers.items)) [
  | inl h ↦ (
      let many = length-map plan.workers.items (λ w. map (λ b. b.items) w.items) in
      let a = agrees.accounts p (omega (arith, h, many)) in
      (told a.judged, record { noted = a.noted; lanes = a.lanes })
      )
  | inr h ↦ (
      let n = p - length plan.workers.items in
      let e : length plan.workers.items + n ≡ p = omega (arith, h) in
      let guest = some_at plan.sessions.items n (omega (arith, h, under)) in
      let a = agrees.sessions n guest.0 guest.1 in
      subst (λ (i : ℕ). (copies : List (Job × Verdict)) × AreAccountedFor (premises_for plan) i copies (slice_index_or (notes_of r) i []) (slice_index_or (answers r) i []) (map (of i) (histories r))) e
      (map (judged_of (length plan.workers.items + n) 0) a.carried, a.copies)
      )
]

pub stored_was_accepted : (plan : Plan) (r : Report) → Agrees plan r → 0 < plan.config.shards → (p : ℕ) → p < producers_in plan
    → (noted : Noted) (uid : ℕ) → Contains (slice_index_or (notes_of r) p []) noted → noted.verdict ≡ Stored uid → noted.mailbox < length (premises_for plan).directory.homes
    → IsStored plan r p noted uid
stored_was_accepted plan r agrees some p under noted uid there stored within =
    let account = accounted plan r agrees p under in
    let shard = mod-lt noted.mailbox {m = plan.config.shards} some in
    let many = agrees.shards in
    let mapped = length-map (histories r) (of p) in
    let put = stored_is_there (premises_for plan) p account.0 (slice_index_or (notes_of r) p []) (slice_index_or (answers r) p []) (map (of p) (histories r)) account.1
    noted uid (shard_of (premises_for plan).directory noted.mailbox) there stored refl (omega (arith, shard, many, mapped)) in
    let seats = ap length agrees.seats ∙ so_many 0 (producers_in plan) in
    let numbered = length-map r.logs.items (λ l. l.seat) in
    let noted_by = length-map r.logs.items (λ l. l.notes) in
    let told = (agrees.lists.mailbox noted.mailbox within).told.told p (omega (arith, under, seats, numbered, noted_by)) in
    let same : (noted.mailbox == noted.mailbox) ≡ true = (Decides-eqb noted.mailbox noted.mailbox).1 refl in
    let pair : stored_for noted.mailbox noted ≡ Some (noted.key, uid) =
    ap (λ (v : Verdict). stored_pair noted.mailbox noted v) stored ∙ ap (λ (b : Bool). let o : Option (CopyKey × ℕ) = (if b then Some (noted.key, uid) else None) in o) same in
    record {
      copy = put.copy;
      same_key = put.same_key;
      same_mailbox = put.same_mailbox;
      taken = passed (λ e. producer e == p) (slice_index_or (histories r) (shard_of (premises_for plan).directory noted.mailbox) []) (Item p put.copy)
          (subst (λ es. Contains es (Item p put.copy)) (of_at p (histories r) (shard_of (premises_for plan).directory noted.mailbox)) put.there);
      accepted = passed (λ (pair : CopyKey × ℕ). pair.0.seat == p) (slice_index_or (accepted_of r) noted.mailbox []) (noted.key, uid)
          (subst (λ ps. Contains ps (noted.key, uid)) (sym told.stored) (found_in (stored_for noted.mailbox) (slice_index_or (notes_of r) p []) noted (noted.key, uid) there pair));
    }

pub taken_is_a_producers : (plan : Plan) (r : Report) → Agrees plan r → (lane p : ℕ) (copy : Job) → lane < length (histories r) → Contains (slice_index_or (histories r) lane []) (Item p copy)
    → (p < producers_in plan) × Contains (slice_index_or (map (of p) (histories r)) lane []) (Item p copy)
taken_is_a_producers plan r agrees lane p copy under there = (elim (less_or_not p (producers_in plan)) [ inl h ↦ h | inr h ↦ absurd (nobodys h) ], subst (λ es. Contains es (Item p copy)) (sym (of_at p (histories r) lane)) own) where
  own : Contains (of p (slice_index_or (histories r) lane [])) (Item p copy)
  own = passes (λ e. producer e == p) (slice_index_or (histories r) lane []) (Item p copy) there ((Decides-eqb p p).1 refl)

  nobodys : producers_in plan ≤ p → ⊥
  nobodys past =
      let whole = All-map (λ h. IsWhole (producers_in plan) 0 h) history r.closed.lanes.items agrees.lanes lane [] under in
      contains_none (subst (λ es. Contains es (Item p copy)) (whole.merge.known p past) own)
