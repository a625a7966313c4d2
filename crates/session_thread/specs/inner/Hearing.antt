-- Verdicts that are answered one after another; nobody has to believe this file.
use Rattle.std.specs.Prelude.{ℕ, List, ◌++◌, ◌+◌, Option, Some, None}
use Rattle.workers_sync.specs.Carried.{Carried}
use Rattle.imap_session.specs.Exchange.{Sent}
use Rattle.imap_session.specs.Store.{to_follow}
use Rattle.session_thread.specs.Life.{Moment, Speaks}

-- whatever was said before, it goes on by the verdicts on these messages, and takes no bytes more
abbrev pub HearsOn : (carried : List Carried) → (before after : Moment) → Type 0
HearsOn carried before after = (bytes : List ℕ) (first : Moment) (used : ℕ) (done : List Carried) → Speaks bytes first used done before
    → Speaks bytes first used (done ++ carried) after

-- so many verdicts are awaited, one after another, where none of them is that a message was refused
abbrev pub verdicts_left : Option Sent → ℕ
verdicts_left None = 0
verdicts_left (Some sent) = to_follow (Some sent) + 1
