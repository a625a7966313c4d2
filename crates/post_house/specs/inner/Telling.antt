-- What the program says of words that ask for nothing that it does: a mistake, or help and the version, which were asked for.
use Rattle.std.specs.Prelude.{◌≡◌, ◌⊎◌, ℕ, Bool, true, List, Option, take}
use Rattle.std.specs.Io.KnownBytes.{Appends}
use Rattle.clap.specs.Words.{Text}
use Rattle.clap.specs.declared.error.kind.ErrorKind.{ErrorKind}
use Rattle.clap.specs.declared.error.kind.ErrorKind.TheVariants as kind
use Rattle.command_line.specs.Words.{FailsWith, faults_at}

-- help or the version was asked for
abbrev pub IsRequest : ErrorKind → Type 0
IsRequest k = (k ≡ kind.DisplayHelp) ⊎ (k ≡ kind.DisplayVersion)

-- A text was written, or after a failure of the output a beginning of it. Which text it is is not said.
pub record Tells (failed : Bool) (status : ℕ) (old new : Option (List ℕ)) : Type 0 where
  pub text : List ℕ
  pub written : ((status ≡ 0) × Appends old new text) ⊎ ((status ≡ 4) × (failed ≡ true) × ((n : ℕ) × Appends old new (take n text)))

-- What is told of an error of this kind. Nothing is written for a mistake, nor where memory is wanting (`untouched`: that the output is as it was).
pub data HasTold (k : ErrorKind) (untouched : Type 0) (failed : Bool) (status : ℕ) (old new : Option (List ℕ)) : Type 0 where
  wanting : status ≡ 5 → untouched → HasTold k untouched failed status old new
  mistaken : status ≡ 2 → (IsRequest k → ⊥) → (k ≡ kind.OutOfMemory → ⊥) → untouched → HasTold k untouched failed status old new
  shown : IsRequest k → Tells failed status old new → HasTold k untouched failed status old new

-- These words, the first of which is the program's name, ask for nothing that is done, for this reason, and that was told.
pub record HasRefused (words : List Text) (why : ErrorKind) (untouched : Type 0) (failed : Bool) (status : ℕ)
    (old new : Option (List ℕ)) : Type 0 where
  pub fails : FailsWith (faults_at words) why
  pub told : HasTold why untouched failed status old new
