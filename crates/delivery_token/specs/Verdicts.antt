-- The verdicts on the copies of one message, and how they come in.
use Rattle.std.specs.Prelude.{◌≡◌, ℕ, suc, ◌<◌, List, [], ◌∷◌, ◌++◌, length, map, slice_index_or, slice_set, Option, Some, None}
use Rattle.delivery_token.specs.declared.CopyKey.{CopyKey}
use Rattle.delivery_token.specs.declared.Verdict.{Verdict}
use Rattle.delivery_token.specs.declared.log.Noted.{Noted}

-- of each copy that was put the verdict, or None while it is awaited; and for how many copies there is room
pub record Verdicts : Type 0 where
  pub slots : List (Option Verdict)
  pub most : ℕ

abbrev pub no_verdicts : ℕ → Verdicts
no_verdicts most = record { slots = []; most = most }

abbrev pub with_slots : List (Option Verdict) → Verdicts → Verdicts
with_slots slots v = record { slots = slots; most = v.most }

-- the next copy was put, and this was heard of it at once
abbrev pub noted_put : Option Verdict → List (Option Verdict) → List (Option Verdict)
noted_put verdict slots = slots ++ verdict ∷ []

-- the verdict is on a copy of the message that was put
pub record IsAwaited (keys : List CopyKey) (slots : List (Option Verdict)) (r : Noted) : Type 0 where
  pub within : r.key.recipient < length slots
  pub known : r.key.recipient < length keys
  pub same : (d : CopyKey) → slice_index_or keys r.key.recipient d ≡ r.key

-- The verdict is noted at the position of its copy, where it is on one that was put, and nothing else is changed.
pub data Hears (keys : List CopyKey) (slots : List (Option Verdict)) (r : Noted) (new : List (Option Verdict)) : Type 0 where
  notes_it : IsAwaited keys slots r → new ≡ slice_set slots r.key.recipient (Some r.verdict) → Hears keys slots r new
  passes_it : (IsAwaited keys slots r → ⊥) → new ≡ slots → Hears keys slots r new

-- how many verdicts aren't known
abbrev pub unknown : List (Option Verdict) → ℕ
unknown [] = 0
unknown (None ∷ slots) = suc (unknown slots)
unknown (Some verdict ∷ slots) = unknown slots

-- nothing that was known is changed
abbrev pub Fills : List (Option Verdict) → List (Option Verdict) → Type 0
Fills [] [] = Unit {0}
Fills [] (y ∷ ys) = ⊥
Fills (x ∷ xs) [] = ⊥
Fills (None ∷ xs) (y ∷ ys) = Fills xs ys
Fills (Some verdict ∷ xs) (y ∷ ys) = (y ≡ Some verdict) × Fills xs ys

-- the verdict is on a copy of the message, with its key and its mailbox, that was put and on which none is known
pub record IsStillAwaited (keys : List CopyKey) (mailboxes : List ℕ) (slots : List (Option Verdict)) (r : Noted) : Type 0 where
  pub put : IsAwaited keys slots r
  pub known : r.key.recipient < length mailboxes
  pub same : (d : ℕ) → slice_index_or mailboxes r.key.recipient d ≡ r.mailbox
  pub none : (d : Option Verdict) → slice_index_or slots r.key.recipient d ≡ None

-- The verdict was filled in, at the position of its copy, where none was known.
pub record FillsIn (keys : List CopyKey) (mailboxes : List ℕ) (r : Noted) (slots filled : List (Option Verdict)) : Type 0 where
  pub there : IsStillAwaited keys mailboxes slots r
  pub awaited : unknown slots ≡ suc (unknown filled)
  pub fills : filled ≡ slice_set slots r.key.recipient (Some r.verdict)

-- so many copies were put, and these are the verdicts on them
pub record AreKnown (count : ℕ) (slots : List (Option Verdict)) (verdicts : List Verdict) : Type 0 where
  pub all : length slots ≡ count
  pub each : slots ≡ map (λ v. Some v) verdicts
