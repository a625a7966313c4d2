-- One life: a session selects an empty mailbox, a copy comes there meanwhile, and a NOOP shows it.
use Rattle.std.specs.Prelude.{◌≡◌, ℕ, codes, false, List, ◌∷◌, ◌++◌, Some, None, []}
use Rattle.imap_session.specs.declared.standing.Profile.TheVariants.{Standard}
use Rattle.imap_session.specs.Exchange.{Standing, begun_with}
use Rattle.world.specs.First.{one_house}
use Rattle.world.specs.World.{World, empty_world}
use Rattle.laws_client.specs.Client.{knowing, unknown}
use Rattle.laws_client.specs.Clients.{hears_all}
use Rattle.imap_session.specs.Happenings.{Answer, Told}
use Rattle.laws_client.specs.HouseClients.{Lives}
use Rattle.laws_client.specs.Views.{view_of}

-- its mailbox is INBOX, and it takes no messages
abbrev pub one_first : Standing
one_first = begun_with (record { most = None; profile = Standard; login = None }) (record { name = codes "INBOX"; mailbox = 0 } ∷ [])

abbrev pub one_last : Standing
one_last = record one_first { selected = Some (record { mailbox = 0; read_only = false }) }

abbrev pub one_sent : List ℕ
one_sent = codes "a1 SELECT INBOX\r\na2 NOOP\r\n"

-- what it is told where it selects that mailbox, which is empty (RFC 9051, 6.3.2)
abbrev pub selects_empty : List ℕ
selects_empty =
    codes "* FLAGS (\\Answered \\Flagged \\Deleted \\Seen \\Draft)\r\n" ++ codes "* 0 EXISTS\r\n" ++ codes "* OK [UIDVALIDITY 1] UIDs valid\r\n"
    ++ codes "* OK [UIDNEXT 1] Predicted next UID\r\n" ++ codes "* OK [PERMANENTFLAGS (\\Answered \\Flagged \\Deleted \\Seen \\Draft)] Flags kept\r\n"
    ++ codes "* LIST () \"/\" INBOX\r\n" ++ codes "a1 OK [READ-WRITE] SELECT completed\r\n"

abbrev pub one_told : List Told
one_told = Answer (codes "a1 SELECT INBOX") selects_empty ∷ Answer (codes "a2 NOOP") (codes "* 1 EXISTS\r\na2 OK NOOP completed\r\n") ∷ []

-- It is lived, in the house with one of each; its client then has a list of one message, and its session counts one.
abbrev pub OneLifeIsLived : Type 0
OneLifeIsLived = (w : World) × Lives one_house 0 one_first empty_world one_sent one_told one_last w × (view_of w 0 ≡ 1 ∷ [])
    × (hears_all None one_told ≡ Some (knowing (Some (unknown ∷ []))))
