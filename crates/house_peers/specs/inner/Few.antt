-- How many recipients a message has.
use Rattle.std.specs.Prelude.{List, length, ◌≤◌, All}
use Rattle.lmtp_machine.specs.Dialogue.{Submission}

-- a message has at most 100 recipients
abbrev pub AreFew : List Submission → Type 0
AreFew submissions = All (λ (s : Submission). length s.keys ≤ 100) submissions
