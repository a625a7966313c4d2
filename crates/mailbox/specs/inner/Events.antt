-- What bodies and proofs say besides: what a call of a mailbox logs, shows and refuses.
use Rattle.std.specs.Prelude.{List, ◌++◌}
use Rattle.change_ring.specs.declared.change.Change.{Change}
use Rattle.change_ring.specs.Log.{Window, IsWindowOf}

-- the window went on by these changes, on every log that it was the window of
abbrev pub GoesOn : Window → Window → List Change → Type 0
GoesOn old new changes = (log : List Change) → IsWindowOf old log → IsWindowOf new (log ++ changes)
