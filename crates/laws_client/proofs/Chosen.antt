-- The messages that a set names in a view are in the view.
use Rattle.std.proofs.Common.{ℕ, ◌+◌, ◌^◌, ◌<◌, Bool, true, false, cond, List, [], ◌∷◌, length, inl, inr, refl, subst}
use Rattle.std.specs.Prelude.{filter, Some, None, IfSome, if◌then◌else◌}
use Rattle.imap_grammar.specs.Sets.{at_positions, is_named, is_too_high, last_uid, named_in}
use Rattle.imap_grammar.specs.declared.set.SeqRange.{SeqRange}
use Rattle.laws_client.specs.Fetches.{AreSmall}
use Rattle.laws_client.proofs.Each.{IsIn}

abbrev pub AreIn : List ℕ → List ℕ → Type 0
AreIn [] view = Unit {0}
AreIn (uid ∷ uids) view = IsIn uid view × AreIn uids view

pub small_in : (uid : ℕ) (view : List ℕ) → AreSmall view → IsIn uid view → uid < 2 ^ 64
small_in uid [] h is = absurd is
small_in uid (u ∷ us) h (inl same) = subst (λ (n : ℕ). n < 2 ^ 64) same h.0
small_in uid (u ∷ us) h (inr other) = small_in uid us h.1 other

in_more : (uids view : List ℕ) (u : ℕ) → AreIn uids view → AreIn uids (u ∷ view)
in_more [] view u h = tt
in_more (uid ∷ uids) view u h = (inr h.0, in_more uids view u h.1)

all_in : (view : List ℕ) → AreIn view view
all_in [] = tt
all_in (u ∷ us) = (inl refl, in_more us us u (all_in us))

filter_in : (test : ℕ → Bool) (uids view : List ℕ) → AreIn uids view → AreIn (filter test uids) view
filter_in test [] view h = tt
filter_in test (uid ∷ uids) view h = by (test uid) (filter_in test uids view h.1)
  where
    by : (t : Bool) → AreIn (filter test uids) view → AreIn (cond t (uid ∷ filter test uids) (filter test uids)) view
    by true more = (h.0, more)
    by false more = more

positions_in : (test : ℕ → Bool) (k : ℕ) (uids view : List ℕ) → AreIn uids view → AreIn (at_positions test k uids) view
positions_in test k [] view h = tt
positions_in test k (uid ∷ uids) view h = by (test k) (positions_in test (k + 1) uids view h.1)
  where
    by : (t : Bool) → AreIn (at_positions test (k + 1) uids) view → AreIn (if t then uid ∷ at_positions test (k + 1) uids else at_positions test (k + 1) uids) view
    by true more = (h.0, more)
    by false more = more

pub named_are_in : (by_uid : Bool) (set : List SeqRange) (view : List ℕ) → IfSome (named_in by_uid set view) (λ uids. AreIn uids view)
named_are_in true set view = filter_in (is_named set (last_uid view)) view view (all_in view)
named_are_in false set view = by (is_too_high set (length view))
  where
    by : (t : Bool) → IfSome (if t then None else Some (at_positions (is_named set (length view)) 1 view)) (λ uids. AreIn uids view)
    by true = tt
    by false = positions_in (is_named set (length view)) 1 view view (all_in view)
