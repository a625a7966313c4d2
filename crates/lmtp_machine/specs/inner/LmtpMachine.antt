-- What bodies and proofs say besides: what an LMTP machine is seen as, and the conversations for which it stands.
use Rattle.std.specs.Prelude.{◌≡◌, ℕ, List, [], ◌∷◌, length}
use Rattle.lmtp_machine.specs.declared.commands.Stage.{Stage}
use Rattle.lmtp_machine.specs.declared.commands.Stage.TheVariants as stages
use Rattle.lmtp_machine.specs.Dialogue.{Waiting, Submission}

-- where verdicts are awaited, a message is pending, with a key for each recipient
abbrev pub IsPending : Stage → List ℕ → List Submission → Type 0
IsPending stages.Waiting recipients pending = (s : Submission) × (pending ≡ s ∷ []) × (length s.keys ≡ length recipients)
IsPending _ recipients pending = pending ≡ []
