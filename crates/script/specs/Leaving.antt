-- What a run leaves: what was written, and what the house stands for then.
use Rattle.std.specs.Prelude.{◌≡◌, ℕ, ◌+◌, Bool, false, List, ◌∷◌, length, Option}
use Rattle.house.specs.Setup.{Setup}
use Rattle.house.specs.Scene.{BytesPlay, ClosePlay, EnterPlay, LeavePlay, SayPlay, Scene, VanishPlay, place_of, seat_of}
use Rattle.house.specs.Settled.{is_held}
use Rattle.house.specs.Settling.{SettlingBreaksOff}
use Rattle.house.specs.Stands.{StandsFor}
use Rattle.house.specs.House.{House}
use Rattle.script.specs.Script.{Asks, Closes, Enters, Leaves, LineDoes, ScriptLine, Sends, Vanishes, held_after, held_by, none_held}
use Rattle.script.specs.Wrote.{WroteAll, WroteFirst, WroteSome}

module _ (k : Setup) (lines : List ScriptLine) (h : House) where
  -- All lines were played, and all that they print was written; the house that is left stands for the scene that they lead to.
  pub record Writes (old new : Option (List ℕ)) : Type 0 where
    pub writes : WroteAll k lines old new
    pub stands : StandsFor k h writes.wrote.delivered.after

module _ (k : Setup) (lines : List ScriptLine) (sent : ℕ) (h : House) where
  -- Of what the lines print that were played the first `sent` bytes were written, and not all; the house stands for the scene that they lead to.
  pub record WritesFirst (old new : Option (List ℕ)) : Type 0 where
    pub writes : WroteFirst k lines old new sent
    pub stands : StandsFor k h writes.wrote.delivered.after

module _ (k : Setup) (lines : List ScriptLine) (Left : ℕ → (held : List Bool) → List ScriptLine → Scene → Type 0) where
  -- All that the lines print that were played was written. Of the house that is left, by the shards that are held then, the lines behind these and
  -- the scene that these lead to, this holds.
  pub record WritesBeginning (old new : Option (List ℕ)) : Type 0 where
    pub writes : WroteSome k lines old new
    pub left : Left (length writes.wrote.some + 1) (held_by (none_held k) writes.wrote.some) writes.wrote.others writes.wrote.delivered.after

module _ (k : Setup) (h : House) where
  -- nothing was done since
  abbrev pub IsLeft : ℕ → (held : List Bool) → List ScriptLine → Scene → Type 0
  IsLeft number held others s = StandsFor k h s

module _ (k : Setup) (s t : Scene) (printed : List ℕ) where
  -- the event that a line asks for happened in part, and printed this
  abbrev pub LineBegins : ScriptLine → Type 0
  LineBegins (Sends connection bytes) = BytesPlay k false s (seat_of connection) bytes t printed
  LineBegins (Vanishes connection) = VanishPlay k false s (seat_of connection) t printed
  LineBegins (Enters session user) = EnterPlay k false s (place_of session) user t printed
  LineBegins (Asks session bytes) = SayPlay k false s (place_of session) bytes t printed
  LineBegins (Leaves session) = LeavePlay k s (place_of session) t printed
  LineBegins (Closes shard) = ClosePlay k s shard t printed
  LineBegins _ = ⊥

-- Memory was wanting as a line was done: nothing happened, or its event did in part.
pub data LineWanting (k : Setup) (line : ScriptLine) (s : Scene) (h : House) : Type 0 where
  undone : StandsFor k h s → LineWanting k line s h
  begun : (after : Scene) (unsaid : List ℕ) → LineBegins k s after unsaid line → StandsFor k h after → LineWanting k line s h

module _ (k : Setup) (number : ℕ) (held : List Bool) where
  -- The same, or the line was done, and memory was wanting as the house settled: that began as ever, and broke off.
  pub data PlayWanting (line : ScriptLine) (s : Scene) (h : House) : Type 0 where
    doing : LineWanting k line s h → PlayWanting line s h
    settling : (between : Scene) (one : List ℕ) (after : Scene) (two : List ℕ) → LineDoes k number s between one line
        → SettlingBreaksOff k (is_held (held_after held line)) between after two → StandsFor k h after → PlayWanting line s h

module _ (k : Setup) (h : House) where
  -- Memory was wanting before the next line was read, or as it was played. What it printed isn't written.
  pub data IsLeftWanting (number : ℕ) (held : List Bool) (others : List ScriptLine) (s : Scene) : Type 0 where
    unread : StandsFor k h s → IsLeftWanting number held others s
    unwritten : (line : ScriptLine) (more : List ScriptLine) → others ≡ line ∷ more → PlayWanting k number held line s h
        → IsLeftWanting number held others s
