-- What a mailbox accepted of one seat, beside that seat's log.
use Rattle.std.proofs.Common.{◌≡◌, ◌⊎◌, inl, inr, ℕ, ◌<◌, zero, suc, ◌==◌, Bool, true, false, List, [], ◌∷◌, map, Option, None, Some, refl, ap, ap₂, sym, subst, ◌∙◌, Contains, slice_index_or, arith, if◌then◌else◌}
use Rattle.std.specs.Prelude.{All, AllPairs, filter, slice_get}
use Rattle.std.proofs.lemmas.Bool.Decides.{Decides-and, Decides-eqb}
use Rattle.std.specs.List.Sorted.{IsStrictlyIncreasing}
use Rattle.std.proofs.lemmas.List.{length-map}
use Rattle.std.proofs.lemmas.List.Elements.{All-cons, All-head, All-nil, All-tail, All-weaker}
use Rattle.std.proofs.lemmas.List.Kept.{AllPairs-cons, AllPairs-filter, AllPairs-from_increasing}
use Rattle.delivery_token.specs.declared.CopyKey.{CopyKey}
use Rattle.delivery_token.specs.declared.Verdict.{Verdict}
use Rattle.delivery_token.specs.declared.Verdict.TheVariants.{Stored, Refused}
use Rattle.delivery_token.specs.declared.log.Noted.{Noted}
use Rattle.delivery_token.specs.Keys.{Below, Precedes}
use Rattle.delivery_token.specs.Copies.{stored_for, stored_in, stored_pair}
use Rattle.running_house.specs.Lists.{IsTold, Rise, keys_of, of_seat}
use Rattle.running_house.specs.Walk.{is_key}
use Rattle.laws_relay.specs.Entries.{with_key, with_uid}
use Rattle.laws_relay.proofs.Positions.{at_or, at_within, kept, kept_order, kept_twice, made, nothing_there, at_contains, contains_at, same_some, none_at, unkept, unmade_at}

-- ---- keys

-- keys that are equal field by field
pub same_key : (a b : CopyKey) → is_key a b ≡ true → a ≡ b
same_key a b h =
    let e =
    (Decides-and _ _ (Decides-eqb a.seat b.seat) (Decides-and _ _ (Decides-eqb a.serial b.serial) (Decides-and _ _ (Decides-eqb a.message b.message) (Decides-eqb a.recipient b.recipient)))).0 h in
    ap₂ (λ (x : ℕ × ℕ) (y : ℕ × ℕ). record { seat = x.0; serial = x.1; message = y.0; recipient = y.1 }) (ap₂ (λ s t. (s, t)) e.0 e.1.0) (ap₂ (λ s t. (s, t)) e.1.1.0 e.1.1.1)

pub is_itself : (a : CopyKey) → is_key a a ≡ true
is_itself a =
    (Decides-and _ _ (Decides-eqb a.seat a.seat) (Decides-and _ _ (Decides-eqb a.serial a.serial) (Decides-and _ _ (Decides-eqb a.message a.message) (Decides-eqb a.recipient a.recipient)))).1
    (refl, (refl, (refl, refl)))

below_trans : (a b c : CopyKey) → Below a b → Below b c → Below a c
below_trans a b c (inl h) (inl k) = inl (omega (arith, h, k))
below_trans a b c (inl h) (inr (e, k)) = inl (omega (arith, h, e))
below_trans a b c (inr (e, h)) (inl k) = inl (omega (arith, e, k))
below_trans a b c (inr (e, inl h)) (inr (f, inl k)) = inr (e ∙ f, inl (omega (arith, h, k)))
below_trans a b c (inr (e, inl h)) (inr (f, inr (g, k))) = inr (e ∙ f, inl (omega (arith, h, g)))
below_trans a b c (inr (e, inr (d, h))) (inr (f, inl k)) = inr (e ∙ f, inl (omega (arith, d, k)))
below_trans a b c (inr (e, inr (d, h))) (inr (f, inr (g, k))) = inr (e ∙ f, inr (d ∙ g, omega (arith, h, k)))

never_below : (a : CopyKey) → Below a a → ⊥
never_below a (inl h) = omega (arith, h)
never_below a (inr (e, inl h)) = omega (arith, h)
never_below a (inr (e, inr (f, h))) = omega (arith, h)

-- ---- keys that rise

rise_above : (a : CopyKey) (keys : List CopyKey) → Rise (a ∷ keys) → All (Precedes a) keys
rise_above a [] h = All-nil (Precedes a)
rise_above a (b ∷ keys) h =
    All-cons (Precedes a) b keys h.0 (All-weaker (Precedes b) (Precedes a) (λ c k. (h.0.0 ∙ k.0, below_trans a b c h.0.1 k.1)) keys (rise_above b keys h.1))

rise_behind : (a : CopyKey) (keys : List CopyKey) → Rise (a ∷ keys) → Rise keys
rise_behind a [] h = tt
rise_behind a (b ∷ keys) h = h.1

abbrev Before : CopyKey × ℕ → CopyKey × ℕ → Type 0
Before p q = Precedes p.0 q.0

all_above : (a : CopyKey) (pairs : List (CopyKey × ℕ)) → All (Precedes a) (keys_of pairs) → All (λ (q : CopyKey × ℕ). Precedes a q.0) pairs
all_above a pairs h = All-unmapped (Precedes a) (λ (q : CopyKey × ℕ). q.0) pairs h
  where
    All-unmapped : {A B : Type 0} (P : B → Type 0) (f : A → B) (xs : List A) → All P (map f xs) → All (λ x. P (f x)) xs
    All-unmapped P f [] k = All-nil (λ x. P (f x))
    All-unmapped P f (x ∷ xs) k = All-cons (λ y. P (f y)) x xs (All-head P (f x) (map f xs) k) (All-unmapped P f xs (All-tail P (f x) (map f xs) k))

rise_entries : (pairs : List (CopyKey × ℕ)) → Rise (keys_of pairs) → AllPairs Before pairs
rise_entries [] h = λ i j d below within. absurd (omega (arith, within))
rise_entries (p ∷ pairs) h = AllPairs-cons Before p pairs (all_above p.0 pairs (rise_above p.0 (keys_of pairs) h)) (rise_entries pairs (rise_behind p.0 (keys_of pairs) h))

pub apart : (k m : ℕ) → (k < m) ⊎ (k ≡ m) ⊎ (m < k)
apart zero zero = inr (inl refl)
apart zero (suc m) = inl (omega arith)
apart (suc k) zero = inr (inr (omega arith))
apart (suc k) (suc m) = elim (apart k m) [
  | inl h ↦ inl (omega (arith, h))
  | inr o ↦ elim o [ inl e ↦ inr (inl (ap suc e)) | inr h ↦ inr (inr (omega (arith, h))) ]
]

-- of two entries of a seat that of the earlier key stands first
pub entries_in_order : (seat : ℕ) (pairs : List (CopyKey × ℕ)) → Rise (keys_of (of_seat seat pairs)) → (i j uid other : ℕ) (earlier later : CopyKey)
    → slice_get pairs i ≡ Some (earlier, uid) → slice_get pairs j ≡ Some (later, other) → earlier.seat ≡ seat → later.seat ≡ seat → Below earlier later → i < j
entries_in_order seat pairs rises i j uid other earlier later ei ej own also below = elim (apart i j) [
  | inl u ↦ u
  | inr o ↦ elim o [
    | inl e ↦ absurd (
        let same : (earlier, uid) ≡ (later, other) = same_some (sym ei ∙ ap (λ (n : ℕ). slice_get pairs n) e ∙ ej) in
        never_below earlier (subst (λ (k : CopyKey). Below earlier k) (sym (ap (λ (p : CopyKey × ℕ). p.0) same)) below)
        )
    | inr u ↦ absurd (
        let Own : CopyKey × ℕ → Bool = λ pair. pair.0.seat == seat in
        let r = kept_order Own pairs j i (later, other) (earlier, uid) ej ei ((Decides-eqb later.seat seat).1 also) ((Decides-eqb earlier.seat seat).1 own) u in
        let up = rise_entries (of_seat seat pairs) rises r.first r.second (later, other) r.below (at_within (of_seat seat pairs) r.second (earlier, uid) r.at_second) in
        let a = at_or (of_seat seat pairs) r.first (later, other) (later, other) r.at_first in
        let b = at_or (of_seat seat pairs) r.second (earlier, uid) (later, other) r.at_second in
        let turned : Precedes later earlier = subst (λ (p : CopyKey × ℕ). Before (later, other) p) b (subst (λ (p : CopyKey × ℕ). Before p (slice_index_or (of_seat seat pairs) r.second (later, other))) a up) in
        never_below earlier (below_trans earlier later earlier below turned.1)
        )
  ]
]

-- ---- one entry at most

-- where no two that are there may stand behind one another, just the one is there
only_one : {A : Type 0} (R : A → A → Type 0) (xs : List A) → AllPairs R xs → ((x y : A) → Contains xs x → Contains xs y → R x y → ⊥) → (z : A) → Contains xs z → xs ≡ z ∷ []
only_one R [] pairs none z c = absurd (let u = c.1 in omega (arith, u))
only_one R (x ∷ []) pairs none z c = ap (λ y. y ∷ []) (same_some (contains_first x z c))
  where
    contains_first : {A : Type 0} (x z : A) → Contains (x ∷ []) z → Some x ≡ Some z
    contains_first x z (zero, u, is) = ap Some is
    contains_first x z (suc k, u, is) = absurd (omega (arith, u))
only_one R (x ∷ y ∷ xs) pairs none z c = absurd (none x y (0, omega arith, refl) (1, omega arith, refl) (pairs 0 1 x (omega arith) (omega arith)))

-- where a mailbox's entries of the key's seat rise, it has one entry with the key, where it has any
pub stands_once : (key : CopyKey) (uid : ℕ) (pairs : List (CopyKey × ℕ)) → Rise (keys_of (of_seat key.seat pairs)) → Contains pairs (key, uid) → with_key key pairs ≡ (key, uid) ∷ []
stands_once key uid pairs rises there =
    let Is : CopyKey × ℕ → Bool = λ pair. is_key pair.0 key in
    let own : filter Is (of_seat key.seat pairs) ≡ with_key key pairs =
    kept_twice Is (λ pair. pair.0.seat == key.seat) pairs (λ x h. (Decides-eqb x.0.seat key.seat).1 (ap (λ (k : CopyKey). k.seat) (same_key x.0 key h))) in
    let all : AllPairs Before (with_key key pairs) = subst (AllPairs Before) own (AllPairs-filter Before Is (of_seat key.seat pairs) (rise_entries (of_seat key.seat pairs) rises)) in
    only_one Before (with_key key pairs) all
    (λ x y cx cy r. never_below key (subst (λ (k : CopyKey). Below k key) (same_key x.0 key (unkept Is pairs x cx).1) (subst (λ (k : CopyKey). Below x.0 k) (same_key y.0 key (unkept Is pairs y cy).1) r.1)))
    (key, uid) (kept Is pairs (key, uid) there (is_itself key))

pub stands_not : (key : CopyKey) (pairs : List (CopyKey × ℕ)) → ((uid : ℕ) → Contains pairs (key, uid) → ⊥) → with_key key pairs ≡ []
stands_not key pairs none = nothing_there (with_key key pairs) (λ x c.
    let is = unkept (λ (pair : CopyKey × ℕ). is_key pair.0 key) pairs x c in
    none x.1 (subst (λ (k : CopyKey). Contains pairs (k, x.1)) (same_key x.0 key is.1) is.0))

-- ---- the log

-- the note says that the copy is stored in this mailbox, under this UID
pub record NotesStored (mailbox uid : ℕ) (key : CopyKey) (noted : Noted) : Type 0 where
  pub key_is : noted.key ≡ key
  pub mailbox_is : noted.mailbox ≡ mailbox
  pub verdict_is : noted.verdict ≡ Stored uid

pair_of : (mailbox : ℕ) (noted : Noted) (verdict : Verdict) (key : CopyKey) (uid : ℕ) → noted.verdict ≡ verdict → stored_pair mailbox noted verdict ≡ Some (key, uid)
    → NotesStored mailbox uid key noted
pair_of mailbox noted (Refused why) key uid v e = absurd (none_at e)
pair_of mailbox noted (Stored n) key uid v e = by_test (noted.mailbox == mailbox) refl e
  where
    by_test : (b : Bool) → (noted.mailbox == mailbox) ≡ b → (let o : Option (CopyKey × ℕ) = (if b then Some (noted.key, n) else None) in o) ≡ Some (key, uid) → NotesStored mailbox uid key noted
    by_test true t s =
        let both : (noted.key, n) ≡ (key, uid) = same_some s in
        record { key_is = ap (λ p. p.0) both; mailbox_is = (Decides-eqb noted.mailbox mailbox).0 t; verdict_is = v ∙ ap (λ p. Stored p.1) both }
    by_test false t s = absurd (none_at s)

-- an entry of a seat's copy is noted in its log
pub entry_noted : (mailbox : ℕ) (accepted : List (CopyKey × ℕ)) (seat : ℕ) (notes : List Noted) → IsTold mailbox accepted seat notes
    → (key : CopyKey) (uid : ℕ) → key.seat ≡ seat → Contains accepted (key, uid) → (noted : Noted) × Contains notes noted × NotesStored mailbox uid key noted
entry_noted mailbox accepted seat notes told key uid own there =
    let of : Contains (of_seat seat accepted) (key, uid) = kept (λ (pair : CopyKey × ℕ). pair.0.seat == seat) accepted (key, uid) there ((Decides-eqb key.seat seat).1 own) in
    let stored : Contains (stored_in mailbox notes) (key, uid) = subst (λ ps. Contains ps (key, uid)) told.stored of in
    let p = contains_at (stored_in mailbox notes) (key, uid) stored in
    let n = unmade_at (stored_for mailbox) notes p.0 (key, uid) p.1 in
    (n.0, at_contains notes n.1 n.0 n.2, pair_of mailbox n.0 n.0.verdict key uid refl n.3)

-- and a stored note has its entry
pub note_entered : (mailbox : ℕ) (accepted : List (CopyKey × ℕ)) (seat : ℕ) (notes : List Noted) → IsTold mailbox accepted seat notes
    → (noted : Noted) (uid : ℕ) → Contains notes noted → noted.mailbox ≡ mailbox → noted.verdict ≡ Stored uid → Contains accepted (noted.key, uid)
note_entered mailbox accepted seat notes told noted uid there here stored =
    let same : (noted.mailbox == mailbox) ≡ true = (Decides-eqb noted.mailbox mailbox).1 here in
    let pair : stored_for mailbox noted ≡ Some (noted.key, uid) =
    ap (λ (v : Verdict). stored_pair mailbox noted v) stored ∙ ap (λ (b : Bool). let o : Option (CopyKey × ℕ) = (if b then Some (noted.key, uid) else None) in o) same in
    (unkept (λ (pair : CopyKey × ℕ). pair.0.seat == seat) accepted (noted.key, uid)
    (subst (λ ps. Contains ps (noted.key, uid)) (sym told.stored) (made (stored_for mailbox) notes noted (noted.key, uid) there pair))).0

-- ---- UIDs

abbrev IsUnder : CopyKey × ℕ → CopyKey × ℕ → Type 0
IsUnder p q = p.1 < q.1

-- what rises along a list rises along what it is of
pairs_rise : (pairs : List (CopyKey × ℕ)) → AllPairs (λ x y. x < y) (map (λ (pair : CopyKey × ℕ). pair.1) pairs) → AllPairs IsUnder pairs
pairs_rise pairs h i j d below within =
    let uid : CopyKey × ℕ → ℕ = λ pair. pair.1 in
    let many = length-map pairs uid in
    let up : slice_index_or (map uid pairs) i d.1 < slice_index_or (map uid pairs) j d.1 = h i j d.1 below (omega (arith, within, many)) in
    let a : slice_index_or (map uid pairs) i d.1 ≡ (slice_index_or pairs i d).1 = mapped_at uid pairs i d in
    let b : slice_index_or (map uid pairs) j d.1 ≡ (slice_index_or pairs j d).1 = mapped_at uid pairs j d in
    omega (arith, up, a, b)
  where
    mapped_at : {A B : Type 0} (f : A → B) (xs : List A) (i : ℕ) (d : A) → slice_index_or (map f xs) i (f d) ≡ f (slice_index_or xs i d)
    mapped_at f [] i d = refl
    mapped_at f (x ∷ xs) zero d = refl
    mapped_at f (x ∷ xs) (suc i) d = mapped_at f xs i d

-- no two copies of a mailbox have one UID, where they rise
pub uids_alone : (pairs : List (CopyKey × ℕ)) → IsStrictlyIncreasing (map (λ (pair : CopyKey × ℕ). pair.1) pairs) → (key : CopyKey) (uid : ℕ) → Contains pairs (key, uid) → with_uid uid pairs ≡ (key, uid) ∷ []
uids_alone pairs rises key uid there =
    let Has : CopyKey × ℕ → Bool = λ pair. pair.1 == uid in
    let all : AllPairs IsUnder (with_uid uid pairs) = AllPairs-filter IsUnder Has pairs (pairs_rise pairs (AllPairs-from_increasing (map (λ (pair : CopyKey × ℕ). pair.1) pairs) rises)) in
    only_one IsUnder (with_uid uid pairs) all
    (λ x y cx cy r.
    (let a : x.1 ≡ uid = (Decides-eqb x.1 uid).0 (unkept Has pairs x cx).1 in
    let b : y.1 ≡ uid = (Decides-eqb y.1 uid).0 (unkept Has pairs y cy).1 in omega (arith, r, a, b)))
    (key, uid) (kept Has pairs (key, uid) there ((Decides-eqb uid uid).1 refl))
