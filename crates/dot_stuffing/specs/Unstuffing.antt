-- What an `Unstuffer` is seen as, and what its answers say of the whole data.
use Rattle.std.specs.Prelude.{◌≡◌, ◌≢◌, ℕ, ◌<◌, ◌≤◌, List, [], ◌∷◌, ◌++◌, length, map, Contains, Bool, true, false, Option, None, Some}
use Rattle.line_io.specs.Wire.{EndsInCr, joined, wire_lines, wire_rest}
use Rattle.dot_stuffing.specs.Data.{undotted, IsOpen, Plain}
use Rattle.dot_stuffing.specs.declared.context.Context.{Context}
use Rattle.dot_stuffing.specs.declared.context.Context.TheVariants.{Start, Dot, DotCr, Inside, Cr}
use Rattle.dot_stuffing.specs.declared.Outcome.{Outcome}
use Rattle.dot_stuffing.specs.declared.Outcome.TheVariants.{Nul, TooBig, NoMemory, Ok}
use Rattle.dot_stuffing.specs.declared.Progress.{Progress}
use Rattle.dot_stuffing.specs.declared.Progress.TheVariants.{More, Done}

-- the context of the next byte: what stands in its line before it
abbrev pub IsAt : Context → List ℕ → Type 0
IsAt Start rest = rest ≡ []
IsAt Dot rest = rest ≡ 46 ∷ []
IsAt DotCr rest = rest ≡ 46 ∷ 13 ∷ []
IsAt Inside rest = (rest ≢ []) × (rest ≢ 46 ∷ []) × (EndsInCr rest → ⊥)
IsAt Cr rest = (rest ≢ 46 ∷ 13 ∷ []) × EndsInCr rest

-- of the line that has not ended, what is known to be text: after a dot and a CR the line may be the end
abbrev pub known : Context → List ℕ → List ℕ
known DotCr rest = []
known context rest = undotted rest

-- the text that the wire has brought
abbrev pub text_so_far : Context → List ℕ → List ℕ
text_so_far context wire = joined (map undotted (wire_lines wire)) ++ known context (wire_rest wire)

-- the wire is open, and this is the context of its next byte
pub record IsOpenAt (context : Context) (wire : List ℕ) : Type 0 where
  pub is_open : IsOpen wire
  pub at : IsAt context (wire_rest wire)

-- what a `Buffer` holds: the text so far, and what stands before it
pub record Buffer : Type 0 where
  pub front : List ℕ
  pub bytes : List ℕ

-- what a `Collector` knows
pub record Collector : Type 0 where
  -- the most bytes that a text may have
  pub max : ℕ
  -- what stands before the text, and the text so far
  pub front : List ℕ
  pub bytes : List ℕ
  -- how many bytes came, while they are at most max
  pub count : ℕ
  pub has_nul : Bool
  pub is_big : Bool
  -- whether memory was refused
  pub no_memory : Bool

-- the text is to stand behind this, unless memory was refused
abbrev pub IsBehind : Collector → List ℕ → Type 0
IsBehind c front = c.no_memory ≡ false → c.front ≡ front

-- this text came
pub record Collects (c : Collector) (text : List ℕ) : Type 0 where
  pub nul : c.has_nul ≡ true → Contains text 0
  pub no_nul : c.has_nul ≡ false → Contains text 0 → ⊥
  pub big : c.is_big ≡ true → c.max < length text
  pub not_big : c.is_big ≡ false → (c.count ≡ length text) × (length text ≤ c.max)
  pub bytes : c.is_big ≡ false → c.no_memory ≡ false → c.bytes ≡ text

-- what comes of a text that may have max bytes
abbrev pub IsOutcome : Outcome → (max : ℕ) → (text : List ℕ) → Type 0
IsOutcome Nul max text = Contains text 0
IsOutcome TooBig max text = (Contains text 0 → ⊥) × (max < length text)
IsOutcome NoMemory max text = (Contains text 0 → ⊥) × (length text ≤ max)
IsOutcome Ok max text = (Contains text 0 → ⊥) × (length text ≤ max)

-- what an `Unstuffer` knows
pub record Unstuffer : Type 0 where
  pub context : Context
  pub collected : Collector
  -- what came of the data, once it has ended
  pub outcome : Option Outcome

-- the unstuffer has taken this wire, and the data has not ended
pub record StandsFor (u : Unstuffer) (wire : List ℕ) : Type 0 where
  pub wire_at : IsOpenAt u.context wire
  pub collects : Collects u.collected (text_so_far u.context wire)

abbrev pub outcome_of : Progress → Option Outcome
outcome_of More = None
outcome_of (Done outcome) = Some outcome

-- What an answer says of the wire and the bytes that the call used after it; u is the unstuffer as the call left it.
-- More: the data has not ended. Done: it ended, with the last byte used.
abbrev pub Tells : Progress → Unstuffer → (wire used : List ℕ) → Type 0
Tells More u wire used = StandsFor u (wire ++ used)
Tells (Done outcome) u wire used =
    (text : List ℕ) × Plain (wire ++ used) text × IsOutcome outcome u.collected.max text × (outcome ≡ Ok → u.collected.bytes ≡ text)
