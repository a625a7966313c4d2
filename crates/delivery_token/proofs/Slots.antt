-- Verdicts that come in, and what was heard for the copies' keys.
use Rattle.std.specs.List.{list_all}
use Rattle.std.specs.Option.{is_some}
use Rattle.std.proofs.Common.{◌≡◌, ◌≢◌, ◌<◌, ◌≤◌, ◌⊎◌, true, false, eqb, ℕ, zero, suc, inl, inr, List, [], ◌∷◌, ◌++◌, ◌∙◌, ap, length, map, refl, sym, subst, arith, Option, Some, None, Contains, get_or, set, length-set, length-append, get_or-set_other, get_or-set_same}
use Rattle.std.proofs.lemmas.Bool.Decides.{eqb_tells}
use Rattle.std.proofs.lemmas.List.Elements.{Contains-append_left, Contains-push, Contains-push_cases}
use Rattle.std.proofs.lemmas.List.{get_or_append_left}
use Rattle.std.proofs.Math.Seq.{get_or-append_seam}
use Rattle.delivery_token.specs.declared.CopyKey.{CopyKey}
use Rattle.delivery_token.specs.declared.Verdict.{Verdict}
use Rattle.delivery_token.specs.declared.log.Noted.{Noted}
use Rattle.delivery_token.specs.Copies.{HeardFor, SlotFor, SlotsFor}
use Rattle.delivery_token.specs.Laws.{StillHold, TellPositions}
use Rattle.delivery_token.specs.Verdicts.{Hears, IsAwaited, notes_it, passes_it}

-- the first slot, and the others
pub first-slot : (heard : List Noted) (key : CopyKey) (keys : List CopyKey) (slot : Option Verdict) (slots : List (Option Verdict)) → SlotsFor heard (key ∷ keys) (slot ∷ slots) → SlotFor heard key slot
first-slot heard key keys slot slots h = h.each 0 key slot (omega arith)

pub other-slots : (heard : List Noted) (key : CopyKey) (keys : List CopyKey) (slot : Option Verdict) (slots : List (Option Verdict)) → SlotsFor heard (key ∷ keys) (slot ∷ slots) → SlotsFor heard keys slots
other-slots heard key keys slot slots h = record { few = let f = h.few in omega (arith, f); each = λ i k s l. h.each (suc i) k s (omega arith) }

pub no-slots : (heard : List Noted) (keys : List CopyKey) → SlotsFor heard keys []
no-slots heard keys = record { few = omega arith; each = λ i k s l. absurd (omega arith) }

-- where all slots are full, they hold what was heard for the keys
pub heard-for : (heard : List Noted) (keys : List CopyKey) (slots : List (Option Verdict)) (vs : List Verdict) → SlotsFor heard keys slots → length keys ≤ length slots → slots ≡ map (λ v. Some v) vs → HeardFor heard keys vs
heard-for heard [] [] [] h l e = tt
heard-for heard [] [] (v ∷ vs) h l e = absurd (let x : [] ≡ Some v ∷ map (λ v. Some v) vs = e in cc)
heard-for heard [] (o ∷ os) vs h l e = absurd (let f = h.few in omega (arith, f))
heard-for heard (k ∷ ks) [] vs h l e = absurd (omega arith)
heard-for heard (k ∷ ks) (o ∷ os) [] h l e = absurd (let x : o ∷ os ≡ [] = e in cc)
heard-for heard (k ∷ ks) (o ∷ os) (v ∷ vs) h l e =
    let a : o ≡ Some v = cc in
    let b : os ≡ map (λ v. Some v) vs = cc in
    (subst (SlotFor heard k) a (first-slot heard k ks o os h), heard-for heard ks os vs (other-slots heard k ks o os h) (omega arith) b)

full : (heard : List Noted) (k : CopyKey) (o : Option Verdict) (v : Verdict) (m : ℕ) → SlotFor heard k o → Contains heard (record { key = k; mailbox = m; verdict = v }) → (u : Verdict) × (o ≡ Some u)
full heard k None v m s c = absurd (s (record { key = k; mailbox = m; verdict = v }) c refl)
full heard k (Some u) v m s c = (u, refl)

-- where something was heard for each key, all slots are full
pub all-full : (heard : List Noted) (keys : List CopyKey) (slots : List (Option Verdict)) (vs : List Verdict) → SlotsFor heard keys slots → HeardFor heard keys vs → (us : List Verdict) × (slots ≡ map (λ v. Some v) us)
all-full heard keys [] vs h g = ([], refl)
all-full heard [] (o ∷ os) vs h g = absurd (let f = h.few in omega (arith, f))
all-full heard (k ∷ ks) (o ∷ os) [] h g = absurd g
all-full heard (k ∷ ks) (o ∷ os) (v ∷ vs) h g =
    let f = full heard k o v g.0.0 (first-slot heard k ks o os h) g.0.1 in
    let r = all-full heard ks os vs (other-slots heard k ks o os h) g.1 in
    (f.0 ∷ r.0, let a : o ≡ Some f.0 = f.1 in let b : os ≡ map (λ v. Some v) r.0 = r.1 in cc (a, b))

-- where each slot is full, they hold some verdicts
pub all_known : (slots : List (Option Verdict)) → list_all is_some slots ≡ true → (vs : List Verdict) × (slots ≡ map (λ v. Some v) vs)
all_known [] e = ([], refl)
all_known (None ∷ os) e = absurd (let x : false ≡ true = e in cc)
all_known (Some v ∷ os) e = let r = all_known os e in (v ∷ r.0, let f : os ≡ map (λ v. Some v) r.0 = r.1 in cc)

pub known_all : (slots : List (Option Verdict)) (vs : List Verdict) → slots ≡ map (λ v. Some v) vs → list_all is_some slots ≡ true
known_all slots vs e = rw e (full_all vs)
  where
    full_all : (us : List Verdict) → list_all is_some (map (λ v. Some v) us) ≡ true
    full_all [] = refl
    full_all (u ∷ us) = full_all us

-- what was heard before, where what is heard now is of another key
pub slot_more : (heard : List Noted) (key : CopyKey) (slot : Option Verdict) (r : Noted) → SlotFor heard key slot → r.key ≢ key → SlotFor (heard ++ r ∷ []) key slot
slot_more heard key (Some v) r s n = (s.0, Contains-append_left heard (r ∷ []) _ s.1)
slot_more heard key None r s n = λ x c e. elim (Contains-push_cases heard r x c) [ inl h ↦ s x h e | inr h ↦ n (ap (λ (y : Noted). y.key) h ∙ e) ]

-- the slot of what is heard now
pub slot_now : (heard : List Noted) (key : CopyKey) (r : Noted) → r.key ≡ key → SlotFor (heard ++ r ∷ []) key (Some r.verdict)
slot_now heard key r e = (r.mailbox, subst (λ (x : CopyKey). Contains (heard ++ r ∷ []) (record { key = x; mailbox = r.mailbox; verdict = r.verdict })) e (Contains-push heard r))

-- one slot more
pub slots_push : (heard : List Noted) (keys : List CopyKey) (slots : List (Option Verdict)) (slot : Option Verdict) → length slots < length keys
    → ((i : ℕ) (key : CopyKey) (d : Option Verdict) → i < length slots → SlotFor heard (get_or keys i key) (get_or slots i d)) → ((key : CopyKey) → SlotFor heard (get_or keys (length slots) key) slot) → SlotsFor heard keys (slots ++ slot ∷ [])
slots_push heard keys slots slot lt old new = record {
  few = let l = length-append slots (slot ∷ []) in omega (arith, l, lt);
  each = λ i key d h. one i key d h (eqb_tells i (length slots));
}
  where
    one : (i : ℕ) (key : CopyKey) (d : Option Verdict) → i < length (slots ++ slot ∷ []) → ((eqb i (length slots) ≡ true) × (i ≡ length slots)) ⊎ ((eqb i (length slots) ≡ false) × (i ≢ length slots)) → SlotFor heard (get_or keys i key) (get_or (slots ++ slot ∷ []) i d)
    one i key d h (inl (b, e)) = subst (λ (j : ℕ). SlotFor heard (get_or keys j key) (get_or (slots ++ slot ∷ []) j d)) (sym e) (subst (λ (x : Option Verdict). SlotFor heard (get_or keys (length slots) key) x) (sym (get_or-append_seam slots slot [] d)) (new key))
    one i key d h (inr (b, ne)) =
        let l : i < length slots = let m = length-append slots (slot ∷ []) in omega (arith, h, m, ne) in
        subst (λ (x : Option Verdict). SlotFor heard (get_or keys i key) x) (sym (get_or_append_left slots (slot ∷ []) d i l)) (old i key d l)

-- ---- a verdict was heard

-- behind the last index a default doesn't matter
get_or_any : (i : ℕ) (keys : List CopyKey) (d e : CopyKey) → i < length keys → get_or keys i d ≡ get_or keys i e
get_or_any i [] d e h = absurd (omega arith)
get_or_any zero (k ∷ ks) d e h = refl
get_or_any (suc i) (k ∷ ks) d e h = get_or_any i ks d e (omega arith)

pub hears_slots : (heard : List Noted) (keys : List CopyKey) (slots : List (Option Verdict)) (r : Noted) (new : List (Option Verdict)) → TellPositions keys → SlotsFor heard keys slots → Hears keys slots r new
    → StillHold (heard ++ r ∷ []) keys slots new
hears_slots heard keys slots r new tell s (notes_it a e) = subst (λ (x : List (Option Verdict)). StillHold (heard ++ r ∷ []) keys slots x) (sym e) (record {
  many = length-set slots r.key.recipient (Some r.verdict);
  hold = record { few = let l = length-set slots r.key.recipient (Some r.verdict) in let f = s.few in omega (arith, l, f); each = λ j key d lt. one j key d lt (eqb_tells j r.key.recipient) };
})
  where
    one : (j : ℕ) (key : CopyKey) (d : Option Verdict) → j < length (set slots r.key.recipient (Some r.verdict)) → ((eqb j r.key.recipient ≡ true) × (j ≡ r.key.recipient)) ⊎ ((eqb j r.key.recipient ≡ false) × (j ≢ r.key.recipient))
        → SlotFor (heard ++ r ∷ []) (get_or keys j key) (get_or (set slots r.key.recipient (Some r.verdict)) j d)
    one j key d lt (inl (t, e)) = subst (λ (i : ℕ). SlotFor (heard ++ r ∷ []) (get_or keys i key) (get_or (set slots r.key.recipient (Some r.verdict)) i d)) (sym e)
        (subst (λ (x : Option Verdict). SlotFor (heard ++ r ∷ []) (get_or keys r.key.recipient key) x) (sym (get_or-set_same slots r.key.recipient (Some r.verdict) d a.within))
        (slot_now heard (get_or keys r.key.recipient key) r (sym (a.same key))))
    one j key d lt (inr (t, ne)) =
        let l = length-set slots r.key.recipient (Some r.verdict) in
        let f = s.few in
        let m : j < length slots = omega (arith, lt, l) in
        subst (λ (x : Option Verdict). SlotFor (heard ++ r ∷ []) (get_or keys j key) x) (sym (get_or-set_other slots r.key.recipient j (Some r.verdict) d ne))
        (slot_more heard (get_or keys j key) (get_or slots j d) r (s.each j key d m)
        (λ e. ne (sym (ap (λ (q : CopyKey). q.recipient) e ∙ tell j key (omega (arith, m, f))))))
hears_slots heard keys slots r new tell s (passes_it isnt e) = subst (λ (x : List (Option Verdict)). StillHold (heard ++ r ∷ []) keys slots x) (sym e) (record {
  many = refl;
  hold = record { few = s.few; each = λ j key d lt. slot_more heard (get_or keys j key) (get_or slots j d) r (s.each j key d lt) (λ e. isnt (awaited j key lt e)) };
})
  where
    awaited : (j : ℕ) (key : CopyKey) → j < length slots → r.key ≡ get_or keys j key → IsAwaited keys slots r
    awaited j key lt e =
        let f = s.few in
        let here : j < length keys = omega (arith, lt, f) in
        let n : r.key.recipient ≡ j = ap (λ (q : CopyKey). q.recipient) e ∙ tell j key here in
        record {
          within = omega (arith, n, lt);
          known = omega (arith, n, lt, f);
          same = λ d. ap (λ (i : ℕ). get_or keys i d) n ∙ get_or_any j keys d key here ∙ sym e;
        }
