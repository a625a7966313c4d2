-- How a run tells what its lines print, as it is printed or as JSON (RFC 8259), and what a run that tells it so leaves.
use Rattle.std.specs.Prelude.{◌≡◌, ℕ, ◌+◌, ◌<◌, ◌≤◌, ◌==◌, ◌&&◌, Bool, if◌then◌else◌, List, [], ◌∷◌, ◌++◌, codes, decimal, encode_utf8, flat_map, length, map, take, Option, Result, Ok, Err}
use Rattle.std.specs.Io.KnownBytes.{Appends}
use Rattle.json.specs.Print.{print}
use Rattle.json.specs.Token.{begin_object, end_object, key, string, number}
use Rattle.house.specs.Setup.{Setup}
use Rattle.house.specs.Scene.{Scene, empty_scene}
use Rattle.house.specs.Stands.{StandsFor}
use Rattle.house.specs.House.{House}
use Rattle.settings.specs.declared.asking.Form.{Form}
use Rattle.settings.specs.declared.asking.Form.TheVariants.{Text, Json}
use Rattle.script.specs.declared.run.RunFault.{RunFault}
use Rattle.script.specs.declared.run.RunFault.TheVariants as faults
use Rattle.script.specs.Script.{LinePlays, ScriptLine, asked, held_after, held_by, is_skipped, line_of, most_bytes, none_held, pieces}
use Rattle.script.specs.Promise.{DeliversOnce}
use Rattle.script.specs.Leaving.{IsLeft, IsLeftWanting}

-- ---- the form

-- bytes as characters: each byte is the character of its number, in UTF-8
abbrev pub characters : List ℕ → List ℕ
characters bytes = flat_map encode_utf8 bytes

-- an object of a number and two texts; an LF ends it
abbrev pub spelled_object : ℕ → (line printed : List ℕ) → List ℕ
spelled_object n line printed = print (
    begin_object
    ∷ key (codes "number") ∷ number (decimal n)
    ∷ key (codes "line") ∷ string line
    ∷ key (codes "printed") ∷ string printed
    ∷ end_object ∷ []
    ) ++ 10 ∷ []

-- the object of a line: its number, the line itself, and what it printed
abbrev pub object_of : ℕ → (line printed : List ℕ) → List ℕ
object_of n line printed = spelled_object n (characters line) (characters printed)

-- nothing is told of a line that is skipped and prints nothing
abbrev pub json_of : ℕ → (line printed : List ℕ) → List ℕ
json_of n line printed = if is_skipped line && (length printed == 0) then [] else object_of n line printed

-- What tells of a line. In JSON a line that is too long is cut behind the most bytes that a line may have.
abbrev pub rendered : Form → ℕ → (line printed : List ℕ) → List ℕ
rendered Text n line printed = printed
rendered Json n line printed = json_of n (take most_bytes line) printed

-- what tells of the lines from this number on, where they printed these texts
abbrev pub told : Form → ℕ → (lines texts : List (List ℕ)) → List ℕ
told form n [] texts = []
told form n (line ∷ lines) [] = []
told form n (line ∷ lines) (text ∷ texts) = rendered form n line text ++ told form (n + 1) lines texts

-- ---- what lines print, line by line

-- the lines of the input, each without its end
abbrev pub lines_of : List ℕ → List (List ℕ)
lines_of input = map line_of (pieces input)

-- what the lines ask for
abbrev pub asked_by : List (List ℕ) → List ScriptLine
asked_by lines = map asked lines

-- The lines from this number on, where these shards are held, and what each of them prints.
abbrev pub LineByLine : Setup → ℕ → List Bool → List ScriptLine → Scene → Scene → (texts : List (List ℕ)) → Type 0
LineByLine k n held [] s t texts = (t ≡ s) × (texts ≡ [])
LineByLine k n held (line ∷ lines) s t texts = (m : Scene) × (one : List ℕ) × (more : List (List ℕ))
    × LinePlays k n held line s m one × LineByLine k (n + 1) (held_after held line) lines m t more × (texts ≡ one ∷ more)

-- all that they print
abbrev pub joined : List (List ℕ) → List ℕ
joined [] = []
joined (text ∷ texts) = text ++ joined texts

-- ---- what a run tells, and what it leaves

module _ (form : Form) (k : Setup) (lines : List (List ℕ)) (old new : Option (List ℕ)) where
  -- Some of the first lines were played, and what was written is a beginning of what tells of them. What they print delivers exactly once.
  pub record ToldOnce : Type 0 where
    pub some : List (List ℕ)
    pub others : List (List ℕ)
    pub split : lines ≡ some ++ others
    pub after : Scene
    pub texts : List (List ℕ)
    pub plays : LineByLine k 1 (none_held k) (asked_by some) (empty_scene k) after texts
    pub once : DeliversOnce k (length some) after (joined texts)
    pub sent : ℕ
    pub within : sent ≤ length (told form 1 some texts)
    pub out : Appends old new (take sent (told form 1 some texts))

  -- All lines were played, and all that tells of them was written.
  pub record ToldAll : Type 0 where
    pub tells : ToldOnce
    pub all : tells.others ≡ []
    pub whole : tells.sent ≡ length (told form 1 tells.some tells.texts)

  -- Of what tells of the lines that were played the first `sent` bytes were written, and not all.
  pub record ToldFirst (sent : ℕ) : Type 0 where
    pub tells : ToldOnce
    pub stopped : tells.sent ≡ sent
    pub within : sent < length (told form 1 tells.some tells.texts)

  -- All that tells of the lines that were played was written.
  pub record ToldSome : Type 0 where
    pub tells : ToldOnce
    pub whole : tells.sent ≡ length (told form 1 tells.some tells.texts)

-- what a run told of these lines, by how it ended
abbrev pub RunTold : Form → Setup → (lines : List (List ℕ)) → Result (Unit {0}) RunFault → (old new : Option (List ℕ)) → Type 0
RunTold form k lines (Ok done) old new = ToldAll form k lines old new
RunTold form k lines (Err (faults.Write sent)) old new = ToldFirst form k lines old new sent
RunTold form k lines (Err faults.NoMemory) old new = ToldSome form k lines old new
RunTold form k lines (Err faults.Read) old new = ToldSome form k lines old new

module _ (form : Form) (k : Setup) (lines : List (List ℕ)) where
  -- All was told, and the house that is left stands for the scene that the lines lead to.
  pub record TellsAll (h : House) (old new : Option (List ℕ)) : Type 0 where
    pub tells : ToldAll form k lines old new
    pub stands : StandsFor k h tells.tells.after

  -- The first `sent` bytes were told, and the house stands for the scene that the lines lead to that were played.
  pub record TellsFirst (sent : ℕ) (h : House) (old new : Option (List ℕ)) : Type 0 where
    pub tells : ToldFirst form k lines old new sent
    pub stands : StandsFor k h tells.tells.after

  -- All was told of the lines that were played. Of the house that is left, by the shards that are held then, what the lines behind them ask for and
  -- the scene that these lead to, this holds.
  pub record TellsBeginning (Left : ℕ → (held : List Bool) → List ScriptLine → Scene → Type 0) (old new : Option (List ℕ)) : Type 0 where
    pub tells : ToldSome form k lines old new
    pub left : Left (length tells.tells.some + 1) (held_by (none_held k) (asked_by tells.tells.some)) (asked_by tells.tells.others)
        tells.tells.after

-- Memory was wanting before the next line was played to its end, as in any form, or, in JSON alone, behind that: what it printed isn't told.
pub data IsLeftUntold (form : Form) (k : Setup) (h : House) (n : ℕ) (held : List Bool) (others : List ScriptLine) (s : Scene) : Type 0 where
  wanting : IsLeftWanting k h n held others s → IsLeftUntold form k h n held others s
  untold : (line : ScriptLine) (more : List ScriptLine) (after : Scene) (printed : List ℕ) → form ≡ Json → others ≡ line ∷ more
      → LinePlays k n held line s after printed → StandsFor k h after → IsLeftUntold form k h n held others s

-- what a run tells of these lines and leaves, by how it ended
abbrev pub RunTells : Form → Setup → (lines : List (List ℕ)) → House → Result (Unit {0}) RunFault → (old new : Option (List ℕ)) → Type 0
RunTells form k lines h (Ok done) old new = TellsAll form k lines h old new
RunTells form k lines h (Err (faults.Write sent)) old new = TellsFirst form k lines sent h old new
RunTells form k lines h (Err faults.NoMemory) old new = TellsBeginning form k lines (IsLeftUntold form k h) old new
RunTells form k lines h (Err faults.Read) old new = TellsBeginning form k lines (IsLeft k h) old new
