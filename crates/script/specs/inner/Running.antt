-- What the parts of a run promise: of one line, and of one turn of the run.
use Rattle.std.specs.Prelude.{◌≡◌, ℕ, ◌<◌, ◌≤◌, ◌⊎◌, Bool, List, [], ◌∷◌, ◌++◌, codes, length, slice_set, take, Option, Some, None, Result, Ok, Err}
use Rattle.std.specs.Io.KnownBytes.{Appends}
use Rattle.house.specs.House.{House}
use Rattle.house.specs.declared.event.Event.{Event}
use Rattle.house.specs.declared.event.Event.TheVariants.{Bytes, Vanish, Enter, Say, Leave, Close}
use Rattle.house.specs.Setup.{Setup}
use Rattle.house.specs.Scene.{Scene}
use Rattle.script.specs.Script.{LineDoes, LinePlays, ScriptLine, Sends, Vanishes, Enters, Asks, Leaves, Closes, Bad, asked, held_after, held_by, none_held}
use Rattle.script.specs.Promise.{refusal}
use Rattle.script.specs.Leaving.{PlayWanting}
use Rattle.script.specs.Telling.{IsLeftUntold, LineByLine, asked_by, lines_of, rendered, told}
use Rattle.settings.specs.declared.asking.Form.{Form}
use Rattle.settings.specs.declared.asking.Form.TheVariants.{Json}
use Rattle.house.specs.Stands.{StandsFor}
use Rattle.script.specs.declared.run.TurnFault.{TurnFault}
use Rattle.script.specs.declared.run.TurnFault.TheVariants as faults

-- the line that asks for an event of the house; none asks for one of the house's own, or for an idle turn
abbrev pub line_for : Event → ScriptLine
line_for (Bytes connection piece) = Sends connection piece.now
line_for (Vanish connection) = Vanishes connection
line_for (Enter session user) = Enters session user.now
line_for (Say session piece) = Asks session piece.now
line_for (Leave session) = Leaves session
line_for (Close shard) = Closes shard
line_for _ = Bad

-- the line was done, the house stands for what it leads to, and this was printed
pub record LineDone (k : Setup) (number : ℕ) (line : ScriptLine) (s : Scene) (h : House) (old new : List ℕ) : Type 0 where
  pub after : Scene
  pub printed : List ℕ
  pub does : LineDoes k number s after printed line
  pub stands : StandsFor k h after
  pub out : new ≡ old ++ printed

-- and then the house settled
pub record LinePlayed (k : Setup) (number : ℕ) (held : List Bool) (line : ScriptLine) (s : Scene) (h : House) (old new : List ℕ) : Type 0 where
  pub after : Scene
  pub printed : List ℕ
  pub plays : LinePlays k number held line s after printed
  pub stands : StandsFor k h after
  pub out : new ≡ old ++ printed

-- and what it printed is told
pub record LineTold (form : Form) (k : Setup) (number : ℕ) (held : List Bool) (line : List ℕ) (s : Scene) (h : House) (new : List ℕ) : Type 0 where
  pub after : Scene
  pub printed : List ℕ
  pub plays : LinePlays k number held (asked line) s after printed
  pub stands : StandsFor k h after
  pub out : new ≡ rendered form number line printed

-- memory was wanting as the line was played, or, in JSON alone, behind that
pub data TellWanting (form : Form) (k : Setup) (number : ℕ) (held : List Bool) (line : ScriptLine) (s : Scene) (h : House) : Type 0 where
  playing : PlayWanting k number held line s h → TellWanting form k number held line s h
  telling : form ≡ Json → (after : Scene) (printed : List ℕ) → LinePlays k number held line s after printed → StandsFor k h after
      → TellWanting form k number held line s h

-- A turn: the first line of the input was read and played, and what tells of it was written.
pub record LineWritten (form : Form) (k : Setup) (number : ℕ) (held : List Bool) (s : Scene) (input : List ℕ) (h : House) (holds : List Bool)
    (left old new : Option (List ℕ)) (sent : ℕ) : Type 0 where
  pub line : List ℕ
  pub rest : List ℕ
  pub remaining : left ≡ Some rest
  pub first : lines_of input ≡ line ∷ lines_of rest
  pub after : Scene
  pub printed : List ℕ
  pub plays : LinePlays k number held (asked line) s after printed
  pub holds_now : holds ≡ held_after held (asked line)
  pub stands : StandsFor k h after
  pub out : Appends old new (rendered form number line printed)
  pub count : sent ≡ length (rendered form number line printed)

-- of what tells of it only the first bytes were written
pub record LineCut (form : Form) (k : Setup) (number : ℕ) (held : List Bool) (s : Scene) (input : List ℕ) (h : House) (old new : Option (List ℕ))
    (sent : ℕ) : Type 0 where
  pub line : List ℕ
  pub others : List (List ℕ)
  pub first : lines_of input ≡ line ∷ others
  pub after : Scene
  pub printed : List ℕ
  pub plays : LinePlays k number held (asked line) s after printed
  pub stands : StandsFor k h after
  pub within : sent < length (rendered form number line printed)
  pub out : Appends old new (take sent (rendered form number line printed))

-- the input was at its end, nothing was written, and the house stands for the scene that it stood for
pub record IsOver (k : Setup) (s : Scene) (input : List ℕ) (h : House) (old new : Option (List ℕ)) : Type 0 where
  pub ended : input ≡ []
  pub stands : StandsFor k h s
  pub silent : new ≡ old

-- the reader failed, and nothing was done or written
pub record IsUnread (k : Setup) (s : Scene) (h : House) (old new : Option (List ℕ)) : Type 0 where
  pub stands : StandsFor k h s
  pub silent : new ≡ old

-- memory was wanting, and nothing was written
pub record IsUnwritten (form : Form) (k : Setup) (number : ℕ) (held : List Bool) (s : Scene) (input : List ℕ) (h : House)
    (old new : Option (List ℕ)) : Type 0 where
  pub left : IsLeftUntold form k h number held (asked_by (lines_of input)) s
  pub silent : new ≡ old

-- what a turn says by its answer
abbrev pub TurnTells : Form → Setup → ℕ → (held : List Bool) → Scene → List ℕ → House → (holds : List Bool) → (left old new : Option (List ℕ))
    → Result (Option ℕ) TurnFault → Type 0
TurnTells form k number held s input h holds left old new (Ok None) = IsOver k s input h old new
TurnTells form k number held s input h holds left old new (Ok (Some sent)) = LineWritten form k number held s input h holds left old new sent
TurnTells form k number held s input h holds left old new (Err (faults.Write sent)) = LineCut form k number held s input h old new sent
TurnTells form k number held s input h holds left old new (Err faults.Read) = IsUnread k s h old new
TurnTells form k number held s input h holds left old new (Err faults.NoMemory) = IsUnwritten form k number held s input h old new

-- The run so far: these lines were played, and what tells of them was written.
pub record HasRun (form : Form) (k : Setup) (input : List ℕ) (count : ℕ) (h : House) (holds : List Bool) (left old new : Option (List ℕ)) (sent : ℕ)
    (start : Scene) : Type 0 where
  pub lines : List (List ℕ)
  pub rest : List ℕ
  pub remaining : left ≡ Some rest
  pub split : lines_of input ≡ lines ++ lines_of rest
  pub counted : length lines ≡ count
  pub after : Scene
  pub texts : List (List ℕ)
  pub plays : LineByLine k 1 (none_held k) (asked_by lines) start after texts
  pub holds_now : holds ≡ held_by (none_held k) (asked_by lines)
  pub stands : StandsFor k h after
  pub out : Appends old new (told form 1 lines texts)
  pub total : sent ≡ length (told form 1 lines texts)

-- the number itself, or 256 where that is less
abbrev pub IsClipped : ℕ → ℕ → Type 0
IsClipped clipped number = ((clipped ≡ number) × (number < 256)) ⊎ ((clipped ≡ 256) × (256 ≤ number))

-- a shard was held or freed, if there is one of this number
pub data SetsHeld (old : List Bool) (number shard : ℕ) (is : Bool) (new : List Bool) (before after : List ℕ) : Type 0 where
  sets : shard < length old → new ≡ slice_set old shard is → after ≡ before → SetsHeld old number shard is new before after
  sets_nobody : length old ≤ shard → new ≡ old → after ≡ before ++ refusal number (codes "Nobody") → SetsHeld old number shard is new before after
