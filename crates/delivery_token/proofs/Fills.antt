-- Slots that are filled, and how many are not.
use Rattle.std.specs.List.{list_all}
use Rattle.std.specs.Option.{is_some}
use Rattle.std.proofs.Common.{◌≡◌, ℕ, zero, suc, ◌<◌, ◌∙◌, ap, refl, sym, List, [], ◌∷◌, length, slice_index_or, slice_set, arith, Option, Some, None, true, false}
use Rattle.std.proofs.lemmas.List.{length-map}
use Rattle.delivery_token.specs.declared.CopyKey.{CopyKey}
use Rattle.delivery_token.specs.declared.Verdict.{Verdict}
use Rattle.delivery_token.specs.declared.log.Noted.{Noted}
use Rattle.delivery_token.specs.Verdicts.{AreKnown, Fills, IsStillAwaited, unknown}

pub fills_same : (xs : List (Option Verdict)) → Fills xs xs
fills_same [] = tt
fills_same (None ∷ xs) = fills_same xs
fills_same (Some v ∷ xs) = (refl, fills_same xs)

pub fills_on : (xs ys zs : List (Option Verdict)) → Fills xs ys → Fills ys zs → Fills xs zs
fills_on [] [] zs h k = k
fills_on [] (y ∷ ys) zs h k = absurd h
fills_on (None ∷ xs) [] zs h k = absurd h
fills_on (Some v ∷ xs) [] zs h k = absurd h
fills_on (None ∷ xs) (None ∷ ys) [] h k = absurd k
fills_on (None ∷ xs) (Some w ∷ ys) [] h k = absurd k
fills_on (None ∷ xs) (None ∷ ys) (z ∷ zs) h k = fills_on xs ys zs h k
fills_on (None ∷ xs) (Some w ∷ ys) (z ∷ zs) h k = fills_on xs ys zs h k.1
fills_on (Some v ∷ xs) (None ∷ ys) zs h k = absurd (let e : None ≡ Some v = h.0 in cc)
fills_on (Some v ∷ xs) (Some w ∷ ys) [] h k = absurd k
fills_on (Some v ∷ xs) (Some w ∷ ys) (z ∷ zs) h k = (k.0 ∙ h.0, fills_on xs ys zs h.1 k.1)

-- a slot that was empty is filled
pub fills_set : (xs : List (Option Verdict)) (i : ℕ) (v : Verdict) → (d : Option Verdict) → i < length xs → is_some (slice_index_or xs i d) ≡ false → Fills xs (slice_set xs i (Some v))
fills_set [] i v d under free = tt
fills_set (None ∷ xs) zero v d under free = fills_same xs
fills_set (Some u ∷ xs) zero v d under free = absurd (let e : true ≡ false = free in cc)
fills_set (None ∷ xs) (suc i) v d under free = fills_set xs i v d (omega arith) free
fills_set (Some u ∷ xs) (suc i) v d under free = (refl, fills_set xs i v d (omega arith) free)

pub fills_length : (xs ys : List (Option Verdict)) → Fills xs ys → length ys ≡ length xs
fills_length [] [] h = refl
fills_length [] (y ∷ ys) h = absurd h
fills_length (x ∷ xs) [] h = absurd h
fills_length (None ∷ xs) (y ∷ ys) h = ap suc (fills_length xs ys h)
fills_length (Some v ∷ xs) (y ∷ ys) h = ap suc (fills_length xs ys h.1)

-- ---- what is awaited

pub none_unknown : (xs : List (Option Verdict)) → list_all is_some xs ≡ true → unknown xs ≡ 0
none_unknown [] all = refl
none_unknown (None ∷ xs) all = absurd (let e : false ≡ true = all in cc)
none_unknown (Some v ∷ xs) all = none_unknown xs all

pub unknown_set : (xs : List (Option Verdict)) (i : ℕ) (v : Verdict) → (d : Option Verdict) → i < length xs → is_some (slice_index_or xs i d) ≡ false → unknown xs ≡ suc (unknown (slice_set xs i (Some v)))
unknown_set [] i v d under free = absurd (omega arith)
unknown_set (None ∷ xs) zero v d under free = refl
unknown_set (Some u ∷ xs) zero v d under free = absurd (let e : true ≡ false = free in cc)
unknown_set (None ∷ xs) (suc i) v d under free = ap suc (unknown_set xs i v d (omega arith) free)
unknown_set (Some u ∷ xs) (suc i) v d under free = unknown_set xs i v d (omega arith) free

-- ---- a verdict that is still awaited

-- behind no end, a default doesn't matter
at_any : {A : Type 0} (xs : List A) (i : ℕ) (d e : A) → i < length xs → slice_index_or xs i d ≡ slice_index_or xs i e
at_any [] i d e h = absurd (omega arith)
at_any (x ∷ xs) zero d e h = refl
at_any (x ∷ xs) (suc i) d e h = at_any xs i d e (omega arith)

not_some : (slot : Option Verdict) → is_some slot ≡ false → slot ≡ None
not_some None free = refl
not_some (Some v) free = absurd (let e : true ≡ false = free in cc)

-- what was read at a position is as the note has it
pub still_awaited : (keys : List CopyKey) (mailboxes : List ℕ) (slots : List (Option Verdict)) (r : Noted) (i : ℕ) (k : CopyKey) (m : ℕ) (s : Option Verdict)
    → i ≡ r.key.recipient → i < length slots → i < length keys → i < length mailboxes
    → slice_index_or keys i k ≡ r.key → slice_index_or mailboxes i m ≡ r.mailbox → is_some (slice_index_or slots i s) ≡ false → IsStillAwaited keys mailboxes slots r
still_awaited keys mailboxes slots r i k m s here put under within key mailbox free = record {
  put = record {
    within = omega (arith, here, put);
    known = omega (arith, here, under);
    same = λ d. ap (λ (n : ℕ). slice_index_or keys n d) (sym here) ∙ at_any keys i d k under ∙ key;
  };
  known = omega (arith, here, within);
  same = λ d. ap (λ (n : ℕ). slice_index_or mailboxes n d) (sym here) ∙ at_any mailboxes i d m within ∙ mailbox;
  none = λ d. ap (λ (n : ℕ). slice_index_or slots n d) (sym here) ∙ at_any slots i d s put ∙ not_some (slice_index_or slots i s) free;
}

-- ---- what is known

-- as many verdicts as copies
pub known_length : (count : ℕ) (slots : List (Option Verdict)) (vs : List Verdict) → AreKnown count slots vs → length vs ≡ count
known_length count slots vs known = sym (length-map vs (λ v. Some v)) ∙ ap length (sym known.each) ∙ known.all
