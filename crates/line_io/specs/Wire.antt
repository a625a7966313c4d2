-- Wire lines: a byte string is cut at each CRLF (RFC 5321, section 2.3.8). A CR or an LF alone is a byte like any other. And
-- lines with a mark that tells who said them.
use Rattle.std.specs.Prelude.{◌≡◌, ℕ, List, [], ◌∷◌, ◌++◌, drop, flat_map, All, Bool, false, ◌&&◌, ◌==◌, if◌then◌else◌, codes, decimal}

abbrev pub crlf : List ℕ
crlf = 13 ∷ 10 ∷ []

-- a CRLF stands in these bytes
abbrev pub HasCrlf : List ℕ → Type 0
HasCrlf bytes = (front : List ℕ) × (back : List ℕ) × (bytes ≡ front ++ 13 ∷ 10 ∷ back)

abbrev pub EndsInCr : List ℕ → Type 0
EndsInCr bytes = (front : List ℕ) × (bytes ≡ front ++ 13 ∷ [])

-- these bytes are within one line
abbrev pub IsUncut : List ℕ → Type 0
IsUncut bytes = HasCrlf bytes → ⊥

-- the lines in a row, each with its CRLF
abbrev pub joined : List (List ℕ) → List ℕ
joined lines = flat_map (λ line. line ++ crlf) lines

-- the stream is these lines, each with its CRLF, and then the rest, a line that has not ended
pub record IsCut (stream : List ℕ) (lines : List (List ℕ)) (rest : List ℕ) : Type 0 where
  pub whole : stream ≡ joined lines ++ rest
  pub each : All IsUncut lines
  pub open_end : IsUncut rest

-- the lines and the rest of a stream, from its end on
pub record Reading : Type 0 where
  pub lines : List (List ℕ)
  pub rest : List ℕ

abbrev pub begins_with_lf : List ℕ → Bool
begins_with_lf [] = false
begins_with_lf (x ∷ xs) = x == 10

-- a byte before what was read: a CR before an LF ends a line
abbrev pub put_first : ℕ → List (List ℕ) → List ℕ → Reading
put_first x [] rest =
    (if (x == 13) && begins_with_lf rest
    then record { lines = [] ∷ []; rest = drop 1 rest }
    else record { lines = []; rest = x ∷ rest })
put_first x (line ∷ lines) rest =
    (if (x == 13) && begins_with_lf line
    then record { lines = [] ∷ drop 1 line ∷ lines; rest = rest }
    else record { lines = (x ∷ line) ∷ lines; rest = rest })

abbrev pub reading : List ℕ → Reading
reading [] = record { lines = []; rest = [] }
reading (x ∷ xs) = put_first x (reading xs).lines (reading xs).rest

-- the lines of a stream, and what comes after its last CRLF: the only ones that `IsCut` allows
abbrev pub wire_lines : List ℕ → List (List ℕ)
wire_lines stream = (reading stream).lines

abbrev pub wire_rest : List ℕ → List ℕ
wire_rest stream = (reading stream).rest

-- ---- lines with a mark that tells who said them

-- each wire line of what was said, with a letter and a number before it and LF for its CRLF
abbrev pub marked : ℕ → ℕ → List ℕ → List ℕ
marked letter n said = flat_map (λ line. letter ∷ decimal n ++ codes " " ++ line ++ 10 ∷ []) (wire_lines said)
