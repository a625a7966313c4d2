-- The lines that show changes to a client (RFC 9051, 7.4 and 7.5).
use Rattle.std.specs.Prelude.{ℕ, ◌+◌, List, [], ◌∷◌, ◌++◌, length, codes, decimal}
use Rattle.change_ring.specs.declared.change.Flags.{Flags}
use Rattle.change_ring.specs.declared.change.Change.{Change}
use Rattle.change_ring.specs.declared.change.Change.TheVariants.{Add, Gone, Flags as SetFlags}
use Rattle.change_ring.specs.Log.{shown}
use Rattle.change_ring.specs.View.{position}
use Rattle.change_ring.specs.Words.{flag_words, spaced}

-- so many messages are there now
abbrev pub exists_line : ℕ → List ℕ
exists_line count = codes "* " ++ decimal count ++ codes " EXISTS\r\n"

-- the message of this sequence number is gone, and each later one moves down
abbrev pub expunge_line : ℕ → List ℕ
expunge_line k = codes "* " ++ decimal k ++ codes " EXPUNGE\r\n"

-- the message of this sequence number and UID has these flags
abbrev pub fetch_line : ℕ → ℕ → Flags → List ℕ
fetch_line k uid flags =
    codes "* " ++ decimal k ++ codes " FETCH (UID " ++ decimal uid ++ codes " FLAGS (" ++ spaced (flag_words flags) ++ codes "))\r\n"

-- the line that shows a change to a client that counts these UIDs
abbrev pub line : List ℕ → Change → List ℕ
line view (Add uid) = exists_line (length view + 1)
line view (Gone uid) = expunge_line (position uid view)
line view (SetFlags uid flags) = fetch_line (position uid view) uid flags

-- the lines that show changes, each to the view that the one before it left
abbrev pub lines : List ℕ → List Change → List ℕ
lines view [] = []
lines view (c ∷ cs) = line view c ++ lines (shown view c) cs
