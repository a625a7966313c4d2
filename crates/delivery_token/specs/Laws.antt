-- What holds of the verdicts on a message, whatever is heard.
use Rattle.std.specs.Prelude.{◌≡◌, ℕ, ◌<◌, ◌++◌, slice_index_or, List, [], ◌∷◌, length, Option}
use Rattle.delivery_token.specs.declared.CopyKey.{CopyKey}
use Rattle.delivery_token.specs.declared.Verdict.{Verdict}
use Rattle.delivery_token.specs.declared.log.Noted.{Noted}
use Rattle.delivery_token.specs.Copies.{SlotsFor}
use Rattle.delivery_token.specs.Verdicts.{Hears}

-- Keys that tell their own positions: the i-th is that of the i-th recipient, and no two are equal.
abbrev pub TellPositions : List CopyKey → Type 0
TellPositions keys = (i : ℕ) (d : CopyKey) → i < length keys → (slice_index_or keys i d).recipient ≡ i

-- there are as many slots as before, and they hold what was heard
pub record StillHold (heard : List Noted) (keys : List CopyKey) (slots : List (Option Verdict)) (new : List (Option Verdict)) : Type 0 where
  pub many : length new ≡ length slots
  pub hold : SlotsFor heard keys new

-- One verdict more is heard, by whomever it is for: what is held of each copy that was put is what was heard for its key, as before.
abbrev pub KeepsWhatWasHeard : Type 0
KeepsWhatWasHeard = (heard : List Noted) (keys : List CopyKey) (slots : List (Option Verdict)) (r : Noted) (new : List (Option Verdict))
    → TellPositions keys → SlotsFor heard keys slots → Hears keys slots r new → StillHold (heard ++ r ∷ []) keys slots new
