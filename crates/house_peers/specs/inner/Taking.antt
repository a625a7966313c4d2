-- What bodies and proofs say besides: what a connection's own steps promise: how far bytes were taken, and what stands afterwards.
use Rattle.std.specs.Prelude.{◌≡◌, ℕ, List, [], Option, Some, None}
use Rattle.envelope.specs.Names.{Directory}
use Rattle.lmtp_machine.specs.declared.connection.What.{What}
use Rattle.lmtp_machine.specs.Dialogue.{Setting, Submission}
use Rattle.lmtp_machine.specs.Conversation.{Conversation}
use Rattle.lmtp_machine.specs.Calls.{Awaits}
use Rattle.lmtp_machine.specs.inner.Calls.{Taken}

-- whether verdicts are awaited, where memory may have been wanting
abbrev pub AwaitsIn : Option What → List Submission → Type 0
AwaitsIn None pending = pending ≡ []
AwaitsIn (Some what) pending = Awaits what pending

-- bytes were taken, and it came to this
abbrev pub TakenBy : (Conversation → Type 0) → Setting → List ℕ → Directory → Conversation → List ℕ → List ℕ → List ℕ → Option What → List Submission
    → Type 0
TakenBy Stands setting host directory c bytes old new None pending = (what : What) × Taken Stands setting host directory c bytes old new what pending
TakenBy Stands setting host directory c bytes old new (Some what) pending = Taken Stands setting host directory c bytes old new what pending
