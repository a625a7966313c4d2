-- A connection of the house that speaks LMTP: where its dialogue stands, what waits to be taken, and what was said and not printed yet.
use Rattle.envelope.specs.Names.{Directory}
use Rattle.lmtp_machine.specs.declared.connection.What.{What}
use Rattle.lmtp_machine.specs.Dialogue.{Setting, Turn}
use Rattle.house_peers.specs.AnyCaller as any
use Rattle.house_peers.specs.Lmtp.{lmtp}

abbrev pub Talk : Type 0
Talk = any.Talk lmtp

abbrev pub WorksOff : (setting : Setting) (directory : Directory) (before : Talk) (turn : Turn) (what : What) (after : Talk) → Type 0
WorksOff = any.WorksOff lmtp
