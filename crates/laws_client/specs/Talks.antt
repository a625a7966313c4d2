-- A whole talk of a session with its client, in one mailbox: what happens one after the other, and all that is written.
use Rattle.std.specs.Prelude.{◌≡◌, ℕ, List, [], ◌∷◌, ◌++◌, Some}
use Rattle.imap_session.specs.Exchange.{Standing, Turn}
use Rattle.laws_client.specs.Commands.{MayCome}
use Rattle.imap_session.specs.Happenings.{Happening, Heard, IsPrinted, Line, Literal, LongLine, Turned, leads_to, whole_line}
use Rattle.laws_client.specs.ListTurns.{SeesAll}

abbrev pub MayHappen : Standing → List ℕ → Happening → Type 0
MayHappen now view (Line line answers) = MayCome (whole_line now line) now view
MayHappen now view LongLine = Unit {0}
MayHappen now view (Turned answers) = Unit {0}
MayHappen now view (Literal kept bytes) = Unit {0}
MayHappen now view (Heard verdict answers) = IsPrinted verdict

-- from this standing and view these happenings lead to that view, and these bytes are written
abbrev pub Talks : Standing → List ℕ → List Happening → List ℕ → List ℕ → Type 0
Talks now view [] bytes new = (bytes ≡ []) × (new ≡ view)
Talks now view (happening ∷ more) bytes new =
    (turn : Turn) × (mid : List ℕ) × (rest : List ℕ) × MayHappen now view happening × (leads_to now happening ≡ Some turn)
    × SeesAll view turn.events mid
    × (bytes ≡ turn.bytes ++ rest) × Talks turn.standing mid more rest new
