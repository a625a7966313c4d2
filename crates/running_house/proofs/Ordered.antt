-- Messages that were met, one behind the other, stand in the order of the lane; and UIDs that begin where they are to.
use Rattle.std.proofs.Common.{◌≡◌, ◌++◌, ◌+◌, ◌<◌, ◌==◌, ◌&&◌, ◌∙◌, ℕ, zero, suc, ap₂, Bool, true, false, List, [], ◌∷◌, All, None, Option, Some, Vec, length, map, refl, sym, ap, subst, slice_index_or, if◌then◌else◌, arith}
use Rattle.std.specs.Global.{Global}
use Rattle.std.specs.List.{list_all, range_with_len}
use Rattle.std.specs.List.Sorted.{IsStrictlyIncreasing}
use Rattle.std.proofs.lemmas.Bool.Decides.{Decides-and, Decides-eqb}
use Rattle.std.proofs.lemmas.List.Elements.{All-head, All-tail}
use Rattle.delivery_token.specs.Text.{Text}
use Rattle.delivery_token.specs.declared.CopyKey.{CopyKey}
use Rattle.delivery_token.specs.declared.Job.{Job}
use Rattle.running_house.specs.Walk.{is_text, are_met, copy_with, is_key, pair_with, with_copy, with_text}
use Rattle.reckoning.specs.Shelves.{AreNumbered, AreToldOnce}
use Rattle.running_house.specs.inner.Begun.{begins_at}
use Rattle.running_house.specs.Order.{AreInLaneOrder, none, next}
use Rattle.running_house.proofs.TextLaws.{is_text-Decides}

some_is : {A : Type 0} {x y : A} → Some x ≡ Some y → x ≡ y
some_is e = cc

not_some : {A : Type 0} {x : A} → None ≡ Some x → ⊥
not_some e = cc

not_true : false ≡ true → ⊥
not_true e = cc

-- keys that are equal field by field
same_key : (a b : CopyKey) → is_key a b ≡ true → a ≡ b
same_key a b h =
    let e = (Decides-and _ _ (Decides-eqb a.seat b.seat) (Decides-and _ _ (Decides-eqb a.serial b.serial) (Decides-and _ _ (Decides-eqb a.message b.message) (Decides-eqb a.recipient b.recipient)))).0 h in
    ap₂ (λ (x : ℕ × ℕ) (y : ℕ × ℕ). record { seat = x.0; serial = x.1; message = y.0; recipient = y.1 }) (ap₂ (λ s t. (s, t)) e.0 e.1.0) (ap₂ (λ s t. (s, t)) e.1.1.0 e.1.1.1)

-- ---- what is found stands in front of what is left

-- the pair that was found, and those before it
pair_here : (uid : ℕ) (pair : CopyKey × ℕ) (pairs : List (CopyKey × ℕ)) (found : CopyKey × List (CopyKey × ℕ)) (b : Bool) → (b ≡ true → pair.1 ≡ uid)
    → (pair_with uid pairs ≡ Some found → (before : List (CopyKey × ℕ)) × (pairs ≡ before ++ (found.0, uid) ∷ found.1))
    → (if b then Some (pair.0, pairs) else pair_with uid pairs) ≡ Some found → (before : List (CopyKey × ℕ)) × (pair ∷ pairs ≡ before ++ (found.0, uid) ∷ found.1)
pair_here uid pair pairs found true same again k =
    let e : (pair.0, pairs) ≡ found = some_is k in
    ([], ap (λ (u : ℕ). (pair.0, u) ∷ pairs) (same refl) ∙ ap (λ (f : CopyKey × List (CopyKey × ℕ)). (f.0, uid) ∷ f.1) e)
pair_here uid pair pairs found false same again k = let h = again k in (pair ∷ h.0, ap (λ l. pair ∷ l) h.1)

pair_split : (uid : ℕ) (pairs : List (CopyKey × ℕ)) (found : CopyKey × List (CopyKey × ℕ)) → pair_with uid pairs ≡ Some found
    → (before : List (CopyKey × ℕ)) × (pairs ≡ before ++ (found.0, uid) ∷ found.1)
pair_split uid [] found is = absurd (not_some is)
pair_split uid (pair ∷ pairs) found is = pair_here uid pair pairs found (pair.1 == uid) (Decides-eqb pair.1 uid).0 (λ k. pair_split uid pairs found k) is

-- the copy that was found, and those before it
record IsSplit (mailbox : ℕ) (key : CopyKey) (copies : List Job) (found : Text × List Job) : Type 0 where
  before : List Job
  copy : Job
  here : copy.mailbox ≡ mailbox
  key_is : copy.key ≡ key
  text : copy.text ≡ found.0
  split : copies ≡ before ++ copy ∷ found.1

and_true : (a b : Bool) → (a && b) ≡ true → (a ≡ true) × (b ≡ true)
and_true true b e = (refl, e)
and_true false b e = absurd (not_true e)

is_it : (mailbox : ℕ) (key : CopyKey) (copy : Job) → (copy.mailbox == mailbox && is_key copy.key key) ≡ true → (copy.mailbox ≡ mailbox) × (copy.key ≡ key)
is_it mailbox key copy h =
    let both = and_true (copy.mailbox == mailbox) (is_key copy.key key) h in
    ((Decides-eqb copy.mailbox mailbox).0 both.0, same_key copy.key key both.1)

copy_here : (mailbox : ℕ) (key : CopyKey) (copy : Job) (copies : List Job) (found : Text × List Job) (b : Bool) → (b ≡ true → (copy.mailbox ≡ mailbox) × (copy.key ≡ key))
    → (copy_with mailbox key copies ≡ Some found → IsSplit mailbox key copies found) → (if b then Some (copy.text, copies) else copy_with mailbox key copies) ≡ Some found
    → IsSplit mailbox key (copy ∷ copies) found
copy_here mailbox key copy copies found true same again k =
    let e : (copy.text, copies) ≡ found = some_is k in
    record {
      before = [];
      copy = copy;
      here = (same refl).0;
      key_is = (same refl).1;
      text = ap (λ (f : Text × List Job). f.0) e;
      split = ap (λ (f : Text × List Job). copy ∷ f.1) e;
    }
copy_here mailbox key copy copies found false same again k =
    let h = again k in
    record { before = copy ∷ h.before; copy = h.copy; here = h.here; key_is = h.key_is; text = h.text; split = ap (λ l. copy ∷ l) h.split }

copy_split : (mailbox : ℕ) (key : CopyKey) (copies : List Job) (found : Text × List Job) → copy_with mailbox key copies ≡ Some found → IsSplit mailbox key copies found
copy_split mailbox key [] found is = absurd (not_some is)
copy_split mailbox key (copy ∷ copies) found is =
    copy_here mailbox key copy copies found (copy.mailbox == mailbox && is_key copy.key key) (λ h. is_it mailbox key copy h) (λ k. copy_split mailbox key copies found k) is

-- ---- one message after another

-- what is known of the messages behind
abbrev Again : ℕ → List (ℕ × Text) → Type 0
Again mailbox texts = (accepted : List (CopyKey × ℕ)) (copies : List Job) → are_met mailbox (Some (accepted, copies)) texts ≡ true → AreInLaneOrder mailbox texts accepted copies

by_text : (mailbox uid : ℕ) (words : Text) (texts : List (ℕ × Text)) (accepted : List (CopyKey × ℕ)) (copies : List Job) → Again mailbox texts → (found : CopyKey × List (CopyKey × ℕ)) (got : Text × List Job)
    → (before : List (CopyKey × ℕ)) → accepted ≡ before ++ (found.0, uid) ∷ found.1 → IsSplit mailbox found.0 copies got
    → (b : Bool) → (b ≡ true → words ≡ got.0) → are_met mailbox (if b then Some (found.1, got.1) else None) texts ≡ true → AreInLaneOrder mailbox ((uid, words) ∷ texts) accepted copies
by_text mailbox uid words texts accepted copies again found got before split t false same k = absurd (not_true k)
by_text mailbox uid words texts accepted copies again found got before split t true same k =
    let one = next before t.before t.copy uid t.here (again found.1 got.1 k) in
    let text : t.copy.text ≡ words = t.text ∙ sym (same refl) in
    let pairs : before ++ (t.copy.key, uid) ∷ found.1 ≡ accepted = ap (λ (key : CopyKey). before ++ (key, uid) ∷ found.1) t.key_is ∙ sym split in
    subst (λ (said : Text). AreInLaneOrder mailbox ((uid, said) ∷ texts) accepted copies) text
    (subst (λ (those : List (CopyKey × ℕ)). AreInLaneOrder mailbox ((uid, t.copy.text) ∷ texts) those copies) pairs
    (subst (λ (jobs : List Job). AreInLaneOrder mailbox ((uid, t.copy.text) ∷ texts) (before ++ (t.copy.key, uid) ∷ found.1) jobs) (sym t.split) one))

by_copy : (mailbox uid : ℕ) (words : Text) (texts : List (ℕ × Text)) (accepted : List (CopyKey × ℕ)) (copies : List Job) → Again mailbox texts → (found : CopyKey × List (CopyKey × ℕ))
    → (before : List (CopyKey × ℕ)) → accepted ≡ before ++ (found.0, uid) ∷ found.1 → (got : Option (Text × List Job)) → copy_with mailbox found.0 copies ≡ got
    → are_met mailbox (with_text words found.1 got) texts ≡ true → AreInLaneOrder mailbox ((uid, words) ∷ texts) accepted copies
by_copy mailbox uid words texts accepted copies again found before split None is k = absurd (not_true k)
by_copy mailbox uid words texts accepted copies again found before split (Some got) is k =
    by_text mailbox uid words texts accepted copies again found got before split (copy_split mailbox found.0 copies got is) (is_text words got.0) (is_text-Decides words got.0).0 k

by_pair : (mailbox uid : ℕ) (words : Text) (texts : List (ℕ × Text)) (accepted : List (CopyKey × ℕ)) (copies : List Job) → Again mailbox texts → (found : Option (CopyKey × List (CopyKey × ℕ)))
    → pair_with uid accepted ≡ found → are_met mailbox (with_copy mailbox words copies found) texts ≡ true → AreInLaneOrder mailbox ((uid, words) ∷ texts) accepted copies
by_pair mailbox uid words texts accepted copies again None is k = absurd (not_true k)
by_pair mailbox uid words texts accepted copies again (Some found) is k =
    let p = pair_split uid accepted found is in
    by_copy mailbox uid words texts accepted copies again found p.0 p.1 (copy_with mailbox found.0 copies) refl k

pub in_lane_order : (mailbox : ℕ) (texts : List (ℕ × Text)) (accepted : List (CopyKey × ℕ)) (copies : List Job) → are_met mailbox (Some (accepted, copies)) texts ≡ true → AreInLaneOrder mailbox texts accepted copies
in_lane_order mailbox [] accepted copies met = none
in_lane_order mailbox ((uid, words) ∷ texts) accepted copies met =
    by_pair mailbox uid words texts accepted copies (λ those jobs k. in_lane_order mailbox texts those jobs k) (pair_with uid accepted) refl met

-- ---- UIDs

head_is : (accepted : List (CopyKey × ℕ)) (first uid : ℕ) → map (λ pair. pair.1) accepted ≡ range_with_len first (length accepted) → begins_at uid accepted ≡ true
    → map (λ pair. pair.1) accepted ≡ range_with_len uid (length accepted)
head_is [] first uid are begins = refl
head_is (pair ∷ accepted) first uid are begins =
    let first_is : pair.1 ≡ first = heads are in
    let same : first ≡ uid = sym first_is ∙ (Decides-eqb pair.1 uid).0 begins in
    are ∙ ap (λ n. range_with_len n (length (pair ∷ accepted))) same
  where
    heads : {x y : ℕ} {xs ys : List ℕ} → x ∷ xs ≡ y ∷ ys → x ≡ y
    heads e = cc

pub numbered_from : (uid : ℕ) (boxes : List (Vec (CopyKey × ℕ) Global)) → All (λ v. AreNumbered v.items) boxes → list_all (λ v. begins_at uid v.items) boxes ≡ true → (m : ℕ)
    → map (λ pair. pair.1) (slice_index_or (map (λ v. v.items) boxes) m []) ≡ range_with_len uid (length (slice_index_or (map (λ v. v.items) boxes) m []))
numbered_from uid [] all begins m = refl
numbered_from uid (box ∷ boxes) all begins zero =
    let one = All-head (λ (v : Vec (CopyKey × ℕ) Global). AreNumbered v.items) box boxes all in
    head_is box.items one.0 uid one.1 (first_true (begins_at uid box.items) (list_all (λ v. begins_at uid v.items) boxes) begins)
  where
    first_true : (a b : Bool) → (a && b) ≡ true → a ≡ true
    first_true true b e = refl
    first_true false b e = e
numbered_from uid (box ∷ boxes) all begins (suc m) =
    numbered_from uid boxes (All-tail (λ (v : Vec (CopyKey × ℕ) Global). AreNumbered v.items) box boxes all) (second_true (begins_at uid box.items) (list_all (λ v. begins_at uid v.items) boxes) begins) m
  where
    second_true : (a b : Bool) → (a && b) ≡ true → b ≡ true
    second_true true b e = e
    second_true false b e = absurd (not_true e)

pub told_once : (boxes : List (Vec (ℕ × Text) Global)) → All (λ v. AreToldOnce v.items) boxes → (m : ℕ) → AreToldOnce (slice_index_or (map (λ v. v.items) boxes) m [])
told_once [] all m = λ k under. absurd (omega (arith, under))
told_once (box ∷ boxes) all zero = All-head (λ (v : Vec (ℕ × Text) Global). AreToldOnce v.items) box boxes all
told_once (box ∷ boxes) all (suc m) = told_once boxes (All-tail (λ (v : Vec (ℕ × Text) Global). AreToldOnce v.items) box boxes all) m
