-- What bodies and proofs say besides: what a mailbox, which keeps no log, says of its log.
use Rattle.std.specs.Prelude.{List}
use Rattle.change_ring.specs.declared.change.Change.{Change}
use Rattle.mailbox.specs.Mailbox.{Mailbox, Stands}

-- it stands for some log, whose first changes nobody knows
abbrev pub IsSound : Mailbox → Type 0
IsSound m = (log : List Change) × Stands m log
