-- What holds of whatever a connection works off.
use Rattle.std.specs.Prelude.{◌≡◌, ℕ}
use Rattle.envelope.specs.Names.{Directory}
use Rattle.lmtp_machine.specs.declared.connection.What.{What}
use Rattle.lmtp_machine.specs.Dialogue.{Setting, Turn, Waiting}
use Rattle.lmtp_machine.specs.Conversation.{IsQuiet}
use Rattle.house_peers.specs.Talk.{Talk, WorksOff}

-- all that waited waits still, and nothing was said
pub record KeepsAll (before : Talk) (turn : Turn) (after : Talk) : Type 0 where
  pub waits : after.waits ≡ before.waits
  pub quiet : IsQuiet turn

-- while verdicts are awaited, nothing of what waits is taken
abbrev pub KeepsWhatWaits : Type 0
KeepsWhatWaits = (setting : Setting) (directory : Directory) (before after : Talk) (turn : Turn) (what : What) (count : ℕ)
    → before.at.standing.phase ≡ Waiting count → WorksOff setting directory before turn what after → KeepsAll before turn after
