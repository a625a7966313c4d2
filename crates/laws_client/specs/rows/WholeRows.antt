-- What a client knows after all that a session said, from its greeting on.
use Rattle.std.specs.Prelude.{◌≡◌, refl, ℕ, zero, suc, ◌+◌, List, [], ◌∷◌, codes, Some, None}
use Rattle.laws_client.specs.Client.{Known, reads, knowing}
use Rattle.laws_client.specs.rows.Rows.{fresh}

-- seventy messages are marked as deleted by another client, while this one idles
abbrev pub seventy : List ℕ
seventy = codes "* PREAUTH IMAP4rev2 server ready\r\n* FLAGS (\\Answered \\Flagged \\Deleted \\Seen \\Draft)\r\n* 70 EXISTS\r\n* OK [UIDVALIDITY 7] UIDs valid\r\n* OK [UIDNEXT 71] Predicted next UID\r\n* OK [PERMANENTFLAGS (\\Answered \\Flagged \\Deleted \\Seen \\Draft)] Flags kept\r\n* LIST () \"/\" INBOX\r\na1 OK [READ-WRITE] SELECT completed\r\n+ idling\r\n* 1 FETCH (UID 1 FLAGS (\\Deleted))\r\n* 2 FETCH (UID 2 FLAGS (\\Deleted))\r\n* 3 FETCH (UID 3 FLAGS (\\Deleted))\r\n* 4 FETCH (UID 4 FLAGS (\\Deleted))\r\n* 5 FETCH (UID 5 FLAGS (\\Deleted))\r\n* 6 FETCH (UID 6 FLAGS (\\Deleted))\r\n* 7 FETCH (UID 7 FLAGS (\\Deleted))\r\n* 8 FETCH (UID 8 FLAGS (\\Deleted))\r\n* 9 FETCH (UID 9 FLAGS (\\Deleted))\r\n* 10 FETCH (UID 10 FLAGS (\\Deleted))\r\n* 11 FETCH (UID 11 FLAGS (\\Deleted))\r\n* 12 FETCH (UID 12 FLAGS (\\Deleted))\r\n* 13 FETCH (UID 13 FLAGS (\\Deleted))\r\n* 14 FETCH (UID 14 FLAGS (\\Deleted))\r\n* 15 FETCH (UID 15 FLAGS (\\Deleted))\r\n* 16 FETCH (UID 16 FLAGS (\\Deleted))\r\n* 17 FETCH (UID 17 FLAGS (\\Deleted))\r\n* 18 FETCH (UID 18 FLAGS (\\Deleted))\r\n* 19 FETCH (UID 19 FLAGS (\\Deleted))\r\n* 20 FETCH (UID 20 FLAGS (\\Deleted))\r\n* 21 FETCH (UID 21 FLAGS (\\Deleted))\r\n* 22 FETCH (UID 22 FLAGS (\\Deleted))\r\n* 23 FETCH (UID 23 FLAGS (\\Deleted))\r\n* 24 FETCH (UID 24 FLAGS (\\Deleted))\r\n* 25 FETCH (UID 25 FLAGS (\\Deleted))\r\n* 26 FETCH (UID 26 FLAGS (\\Deleted))\r\n* 27 FETCH (UID 27 FLAGS (\\Deleted))\r\n* 28 FETCH (UID 28 FLAGS (\\Deleted))\r\n* 29 FETCH (UID 29 FLAGS (\\Deleted))\r\n* 30 FETCH (UID 30 FLAGS (\\Deleted))\r\n* 31 FETCH (UID 31 FLAGS (\\Deleted))\r\n* 32 FETCH (UID 32 FLAGS (\\Deleted))\r\n* 33 FETCH (UID 33 FLAGS (\\Deleted))\r\n* 34 FETCH (UID 34 FLAGS (\\Deleted))\r\n* 35 FETCH (UID 35 FLAGS (\\Deleted))\r\n* 36 FETCH (UID 36 FLAGS (\\Deleted))\r\n* 37 FETCH (UID 37 FLAGS (\\Deleted))\r\n* 38 FETCH (UID 38 FLAGS (\\Deleted))\r\n* 39 FETCH (UID 39 FLAGS (\\Deleted))\r\n* 40 FETCH (UID 40 FLAGS (\\Deleted))\r\n* 41 FETCH (UID 41 FLAGS (\\Deleted))\r\n* 42 FETCH (UID 42 FLAGS (\\Deleted))\r\n* 43 FETCH (UID 43 FLAGS (\\Deleted))\r\n* 44 FETCH (UID 44 FLAGS (\\Deleted))\r\n* 45 FETCH (UID 45 FLAGS (\\Deleted))\r\n* 46 FETCH (UID 46 FLAGS (\\Deleted))\r\n* 47 FETCH (UID 47 FLAGS (\\Deleted))\r\n* 48 FETCH (UID 48 FLAGS (\\Deleted))\r\n* 49 FETCH (UID 49 FLAGS (\\Deleted))\r\n* 50 FETCH (UID 50 FLAGS (\\Deleted))\r\n* 51 FETCH (UID 51 FLAGS (\\Deleted))\r\n* 52 FETCH (UID 52 FLAGS (\\Deleted))\r\n* 53 FETCH (UID 53 FLAGS (\\Deleted))\r\n* 54 FETCH (UID 54 FLAGS (\\Deleted))\r\n* 55 FETCH (UID 55 FLAGS (\\Deleted))\r\n* 56 FETCH (UID 56 FLAGS (\\Deleted))\r\n* 57 FETCH (UID 57 FLAGS (\\Deleted))\r\n* 58 FETCH (UID 58 FLAGS (\\Deleted))\r\n* 59 FETCH (UID 59 FLAGS (\\Deleted))\r\n* 60 FETCH (UID 60 FLAGS (\\Deleted))\r\n* 61 FETCH (UID 61 FLAGS (\\Deleted))\r\n* 62 FETCH (UID 62 FLAGS (\\Deleted))\r\n* 63 FETCH (UID 63 FLAGS (\\Deleted))\r\n* 64 FETCH (UID 64 FLAGS (\\Deleted))\r\n* 65 FETCH (UID 65 FLAGS (\\Deleted))\r\n* 66 FETCH (UID 66 FLAGS (\\Deleted))\r\n* 67 FETCH (UID 67 FLAGS (\\Deleted))\r\n* 68 FETCH (UID 68 FLAGS (\\Deleted))\r\n* 69 FETCH (UID 69 FLAGS (\\Deleted))\r\n* 70 FETCH (UID 70 FLAGS (\\Deleted))\r\n"

-- a part of a text, its size, and its header
abbrev pub partial : List ℕ
partial = codes "* PREAUTH IMAP4rev2 server ready\r\n* FLAGS (\\Answered \\Flagged \\Deleted \\Seen \\Draft)\r\n* 1 EXISTS\r\n* OK [UIDVALIDITY 7] UIDs valid\r\n* OK [UIDNEXT 2] Predicted next UID\r\n* OK [PERMANENTFLAGS (\\Answered \\Flagged \\Deleted \\Seen \\Draft)] Flags kept\r\n* LIST () \"/\" INBOX\r\na1 OK [READ-WRITE] SELECT completed\r\n* 1 FETCH (BODY[TEXT]<1> {3}\r\nell FLAGS (\\Seen))\r\na2 OK FETCH completed\r\n* 1 FETCH (RFC822.SIZE 49)\r\na3 OK FETCH completed\r\n* 1 FETCH (BODY[HEADER] {42}\r\nReturn-Path: <s@a.example>\r\nSubject: x\r\n\r\n)\r\na4 OK FETCH completed\r\n"

-- in the compatible profile: a client logs in, selects, and its CHECK shows that one of two messages is gone
abbrev pub in_the_old_way : List ℕ
in_the_old_way = codes "* OK [CAPABILITY IMAP4rev2 IMAP4rev1 IDLE NAMESPACE UIDPLUS UNSELECT] IMAP4rev2 server ready\r\na1 OK LOGIN completed\r\n* FLAGS (\\Answered \\Flagged \\Deleted \\Seen \\Draft)\r\n* 2 EXISTS\r\n* OK [UIDVALIDITY 7] UIDs valid\r\n* OK [UIDNEXT 3] Predicted next UID\r\n* OK [PERMANENTFLAGS (\\Answered \\Flagged \\Deleted \\Seen \\Draft)] Flags kept\r\n* LIST () \"/\" INBOX\r\n* 0 RECENT\r\na2 OK [READ-WRITE] SELECT completed\r\n* LSUB () \"/\" INBOX\r\na3 OK LSUB completed\r\n* 1 EXPUNGE\r\na4 OK CHECK completed\r\n"

-- so many messages, whose UIDs follow one another
abbrev pub deleted_from : ℕ → ℕ → List Known
deleted_from uid zero = []
deleted_from uid (suc n) = record { uid = Some uid; flags = Some (codes "\\Deleted" ∷ []) } ∷ deleted_from (uid + 1) n

-- each of them is known by its UID and its flag
seventy_are_known : reads fresh seventy ≡ knowing (Some (deleted_from 1 70))
seventy_are_known = refl

-- texts in literals tell nothing, and \Seen behind one of them is read
partial_is_known : reads fresh partial ≡ knowing (Some (record { uid = None; flags = Some (codes "\\Seen" ∷ []) } ∷ []))
partial_is_known = refl

-- what stands there of recent messages tells nothing
old_way_is_known : reads fresh in_the_old_way ≡ knowing (Some (record { uid = None; flags = None } ∷ []))
old_way_is_known = refl
