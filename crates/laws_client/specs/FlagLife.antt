-- One life: a session selects an empty mailbox, a copy comes there, a NOOP shows it, and its client sets a flag of it.
use Rattle.std.specs.Prelude.{◌≡◌, ℕ, codes, true, List, ◌∷◌, Some, None, []}
use Rattle.change_ring.specs.Log.{no_flags}
use Rattle.change_ring.specs.declared.change.Change.TheVariants.{Add, Flags as SetFlags}
use Rattle.world.specs.First.{one_house}
use Rattle.world.specs.World.{World, empty_world}
use Rattle.laws_client.specs.Client.{knowing}
use Rattle.laws_client.specs.Clients.{hears_all}
use Rattle.imap_session.specs.Happenings.{Answer, Told}
use Rattle.laws_client.specs.HouseClients.{Lives}
use Rattle.laws_client.specs.RecordLife.{one_first, one_last, selects_empty}
use Rattle.laws_client.specs.HouseClients.{point_of}

abbrev pub flag_sent : List ℕ
flag_sent = codes "a1 SELECT INBOX\r\na2 NOOP\r\na3 STORE 1 +FLAGS (\\Flagged)\r\n"

abbrev pub flag_told : List Told
flag_told =
    Answer (codes "a1 SELECT INBOX") selects_empty ∷ Answer (codes "a2 NOOP") (codes "* 1 EXISTS\r\na2 OK NOOP completed\r\n")
    ∷ Answer (codes "a3 STORE 1 +FLAGS (\\Flagged)") (codes "* 1 FETCH (FLAGS (\\Flagged))\r\na3 OK STORE completed\r\n") ∷ []

-- It is lived, in the house with one of each. Its session was shown the first of two changes; its client knows the flags behind the second, which are
-- newer than those that its session was shown.
abbrev pub OneLifeKnowsFlags : Type 0
OneLifeKnowsFlags = (w : World) × Lives one_house 0 one_first empty_world flag_sent flag_told one_last w
    × (point_of w 0 ≡ record { log = Add 1 ∷ SetFlags 1 (record no_flags { flagged = true }) ∷ []; cursor = 1 })
    × (hears_all None flag_told ≡ Some (knowing (Some (record { uid = None; flags = Some (codes "\\Flagged" ∷ []) } ∷ []))))
