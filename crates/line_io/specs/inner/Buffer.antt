-- How what is said through a buffer is tied to what its sink took.
use Rattle.std.specs.Prelude.{◌≡◌, ℕ, ◌<◌, length, List, [], ◌∷◌, ◌++◌, Option, None, Bool, true, false, map}
use Rattle.std.specs.Io.KnownBytes.{Appends}

-- the bytes of a log
abbrev pub logged : List (ℕ × Unit {0}) → List ℕ
logged log = map (λ p. p.0) log

-- what a sink had taken that was put into a log of its own
abbrev pub start_of : {A : Type 0} → (A → Option (List ℕ)) → List (A × Unit {0}) → Option (List ℕ)
start_of taken [] = None
start_of taken (p ∷ ps) = taken p.0

-- Of what was said the first bytes were sent. The rest is what is pending. Where the sink has failed the rest is what never goes out, and that is
-- something; nothing is pending then.
pub record Tied (start taken : Option (List ℕ)) (said pending : List ℕ) (failed : Bool) : Type 0 where
  pub sent : List ℕ
  pub rest : List ℕ
  pub whole : said ≡ sent ++ rest
  pub took : Appends start taken sent
  pub going : failed ≡ false → rest ≡ pending
  pub short : failed ≡ true → 0 < length rest
  pub none : failed ≡ true → pending ≡ []
