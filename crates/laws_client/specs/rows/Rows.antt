-- What a client knows after the lines of worked cases, and what it may not conclude.
use Rattle.std.specs.Prelude.{◌≡◌, ℕ, Bool, true, false, List, [], ◌∷◌, ◌++◌, codes, length, Option, Some, None}
use Rattle.std.proofs.Common.{refl, ap, sym, subst, arith}
use Rattle.change_ring.specs.View.{position}
use Rattle.laws_client.specs.Client.{Client, Known, Messages, reads, knowing, unknown}
use Rattle.laws_client.specs.Beliefs.{HearsUid, HoldsOf, IsKnownTo, Follows, KeepsUids}
use Rattle.laws_client.specs.Clients.{Each, IsOf}

-- a client that has asked for a mailbox, and read nothing yet
abbrev pub fresh : Client
fresh = knowing (Some [])

-- what SELECT answers about a mailbox of so many messages
abbrev pub select_of : List ℕ → List ℕ
select_of count = codes "* FLAGS (\\Answered \\Flagged \\Deleted \\Seen \\Draft)\r\n* " ++ count ++ codes " EXISTS\r\n* OK [UIDVALIDITY 7] UIDs valid\r\n* OK [UIDNEXT 4] Predicted next UID\r\n* OK [PERMANENTFLAGS (\\Answered \\Flagged \\Deleted \\Seen \\Draft)] Flags kept\r\n* LIST () \"/\" INBOX\r\na1 OK [READ-WRITE] SELECT completed\r\n"

-- three messages; two of them go, each by its number when it goes
expunge : reads fresh (select_of (codes "3") ++ codes "* 3 FETCH (UID 3)\r\na2 NO [EXPUNGEISSUED] Some messages are gone\r\n* 1 FETCH (UID 1 FLAGS (\\Deleted))\r\n* 2 FETCH (UID 2 FLAGS (\\Deleted))\r\n* 1 EXPUNGE\r\n* 1 EXPUNGE\r\na3 OK NOOP completed\r\n")
    ≡ knowing (Some (record { uid = Some 3; flags = None } ∷ []))
expunge = refl

-- before the NOOP it knows what its own STORE answered, which is newer than what it was shown of the mailbox
own_store : reads fresh (select_of (codes "1") ++ codes "* 1 FETCH (FLAGS (\\Flagged \\Seen))\r\na2 OK STORE completed\r\n")
    ≡ knowing (Some (record { uid = None; flags = Some (codes "\\Flagged" ∷ codes "\\Seen" ∷ []) } ∷ []))
own_store = refl

-- and after it the same, though older flags were shown first
own_changes_shown : reads fresh (select_of (codes "1") ++ codes "* 1 FETCH (FLAGS (\\Flagged \\Seen))\r\na2 OK STORE completed\r\n* 1 FETCH (UID 1 FLAGS (\\Flagged))\r\n* 1 FETCH (UID 1 FLAGS (\\Flagged \\Seen))\r\na3 OK NOOP completed\r\n")
    ≡ knowing (Some (record { uid = Some 1; flags = Some (codes "\\Flagged" ∷ codes "\\Seen" ∷ []) } ∷ []))
own_changes_shown = refl

-- while it idles two messages come
idle : reads fresh (select_of (codes "0") ++ codes "+ idling\r\n* 1 EXISTS\r\n* 2 EXISTS\r\na2 OK IDLE completed\r\n")
    ≡ knowing (Some (unknown ∷ unknown ∷ []))
idle = refl

-- the text of a message has lines that look like the server's
lines_in_a_literal : reads fresh (select_of (codes "1") ++ codes "* 1 FETCH (UID 1 BODY[] {29}\r\nHi\r\n* 1 EXPUNGE\r\n* 9 EXISTS\r\n FLAGS (\\Seen))\r\na2 OK FETCH completed\r\n")
    ≡ knowing (Some (record { uid = Some 1; flags = Some (codes "\\Seen" ∷ []) } ∷ []))
lines_in_a_literal = refl

-- a literal that ends its line
literal_at_the_end : reads fresh (codes "* LIST () \"/\" {5}\r\nINBOX\r\n* 1 EXISTS\r\n") ≡ knowing (Some (unknown ∷ []))
literal_at_the_end = refl

-- had the count no more than the first line of that text, the rest of it would be read: the message is lost, and nine are made up
lines_behind_a_short_count : reads fresh (select_of (codes "1") ++ codes "* 1 FETCH (UID 1 BODY[] {2}\r\nHi\r\n* 1 EXPUNGE\r\n* 2 EXISTS\r\n FLAGS (\\Seen))\r\na2 OK FETCH completed\r\n")
    ≡ knowing (Some (unknown ∷ unknown ∷ []))
lines_behind_a_short_count = refl

-- What a search was asked to return tells it of no message (RFC 9051, 7.3.4), and be its tag a word that tells of one.
found : reads fresh (select_of (codes "1") ++ codes "* ESEARCH (TAG \"EXISTS\") UID MIN 2 COUNT 3\r\nEXISTS OK UID SEARCH completed\r\n") ≡ knowing (Some (unknown ∷ []))
found = refl

-- names of header fields that the client put in quotes (RFC 9051, 9: header-fld-name), and be one of them a word that tells of a message
names_in_quotes : reads fresh (select_of (codes "1") ++ codes "* 1 FETCH (BODY[HEADER.FIELDS (\"UID\" \"Subject\")] {2}\r\n\r\n UID 3)\r\na2 OK FETCH completed\r\n")
    ≡ knowing (Some (record { uid = Some 3; flags = None } ∷ []))
names_in_quotes = refl

-- numbers that it can't have: a second message of one, and a mailbox that shrinks by itself
too_high : reads fresh (select_of (codes "1") ++ codes "* 2 EXPUNGE\r\n") ≡ knowing None
too_high = refl

fewer : reads fresh (select_of (codes "2") ++ codes "* 1 EXISTS\r\n") ≡ knowing None
fewer = refl

-- it selects another mailbox
closed : reads fresh (select_of (codes "2") ++ (codes "* OK [CLOSED] Previous mailbox is closed\r\n" ++ select_of (codes "1"))) ≡ knowing (Some (unknown ∷ []))
closed = refl

-- of two messages the first goes and a third comes
in_order : reads fresh (select_of (codes "2") ++ codes "* 1 EXPUNGE\r\n* 2 EXISTS\r\n") ≡ knowing (Some (unknown ∷ unknown ∷ []))
in_order = refl

-- the same lines the other way round: the third is lost
out_of_order : reads fresh (select_of (codes "2") ++ codes "* 2 EXISTS\r\n* 1 EXPUNGE\r\n") ≡ knowing (Some (unknown ∷ []))
out_of_order = refl

-- the other way round, with the numbers of that order: the client comes to the same list
other_order : reads fresh (select_of (codes "2") ++ codes "* 3 EXISTS\r\n* 1 EXPUNGE\r\n") ≡ knowing (Some (unknown ∷ unknown ∷ []))
other_order = refl

-- a FETCH that is numbered by the mailbox, where the client wasn't told yet that the first message is gone: it takes one message for another
by_the_mailbox : reads fresh (select_of (codes "2") ++ codes "* 1 FETCH (UID 2 FLAGS ())\r\n") ≡ knowing (Some (record { uid = Some 2; flags = Some [] } ∷ unknown ∷ []))
by_the_mailbox = refl

-- ---- what `Follows` refuses

abbrev the_list : Messages → List Known
the_list None = []
the_list (Some list) = list

-- a client that has read these bytes to this list has read them to no other
one_list : (before : List Known) (bytes view : List ℕ) (after : List Known) → reads (knowing (Some before)) bytes ≡ knowing (Some after) → Follows IsOf before bytes view → Each IsOf view after
one_list before bytes view after is follows =
    subst (λ (client : Client). Each IsOf view (the_list client.messages)) is (subst (λ (client : Client). Each IsOf view (the_list client.messages)) (sym follows.reads) follows.each)

-- a FETCH that is numbered by the mailbox: of two messages that it counts, the first is gone already
by_the_mailbox_is_refused : Follows IsOf (unknown ∷ unknown ∷ []) (codes "* 1 FETCH (UID 2 FLAGS ())\r\n") (1 ∷ 2 ∷ []) → ⊥
by_the_mailbox_is_refused follows =
    let each = one_list (unknown ∷ unknown ∷ []) (codes "* 1 FETCH (UID 2 FLAGS ())\r\n") (1 ∷ 2 ∷ []) (record { uid = Some 2; flags = Some [] } ∷ unknown ∷ []) refl follows in
    let same : 2 ≡ 1 = each.0 2 refl in absurd (omega (arith, same))

-- an EXPUNGE that is numbered by the mailbox: of three messages the first is gone already, then the third goes, which is the mailbox's second
expunge_by_the_mailbox_is_refused : Follows IsOf (record { uid = Some 1; flags = None } ∷ record { uid = Some 2; flags = None } ∷ record { uid = Some 3; flags = None } ∷ []) (codes "* 2 EXPUNGE\r\n") (1 ∷ 2 ∷ []) → ⊥
expunge_by_the_mailbox_is_refused follows =
    let each = one_list (record { uid = Some 1; flags = None } ∷ record { uid = Some 2; flags = None } ∷ record { uid = Some 3; flags = None } ∷ []) (codes "* 2 EXPUNGE\r\n") (1 ∷ 2 ∷ [])
    (record { uid = Some 1; flags = None } ∷ record { uid = Some 3; flags = None } ∷ []) refl follows in
    let same : 3 ≡ 2 = each.1.0 3 refl in absurd (omega (arith, same))

-- the EXISTS before the EXPUNGE that came first, as they are
out_of_order_is_refused : Follows IsOf (unknown ∷ unknown ∷ []) (codes "* 2 EXISTS\r\n* 1 EXPUNGE\r\n") (2 ∷ 3 ∷ []) → ⊥
out_of_order_is_refused follows = (one_list (unknown ∷ unknown ∷ []) (codes "* 2 EXISTS\r\n* 1 EXPUNGE\r\n") (2 ∷ 3 ∷ []) (unknown ∷ []) refl follows).1

abbrev is_known : Messages → Bool
is_known None = false
is_known (Some list) = true

-- and a number that it can't have
too_high_is_refused : (view : List ℕ) → Follows IsOf (unknown ∷ []) (codes "* 2 EXPUNGE\r\n") view → ⊥
too_high_is_refused view follows =
    let same : false ≡ true = ap (λ (client : Client). is_known client.messages) follows.reads in cc

-- ---- what `HearsUid` and `KeepsUids` refuse

-- a client that has read these bytes to this list knows the UID there
the_uid : (view : List ℕ) (uid : ℕ) (before : List Known) (bytes : List ℕ) (after : List Known) → reads (knowing (Some before)) bytes ≡ knowing (Some after) → length before ≡ length view → HearsUid view uid bytes
    → HoldsOf (λ message. message.uid ≡ Some uid) (position uid view) after
the_uid view uid before bytes after is long hears =
    let l = hears before long in
    subst (λ (client : Client). HoldsOf (λ message. message.uid ≡ Some uid) (position uid view) (the_list client.messages)) is
    (subst (λ (client : Client). HoldsOf (λ message. message.uid ≡ Some uid) (position uid view) (the_list client.messages)) (sym l.reads) l.learned)

abbrev pub the_number : Option ℕ → ℕ
the_number None = 0
the_number (Some n) = n

-- a text that tells no UID
no_uid_is_told : HearsUid (7 ∷ []) 7 (codes "* 1 FETCH (FLAGS (\\Seen))\r\n") → ⊥
no_uid_is_told hears =
    let same : 0 ≡ 7 = ap the_number (the_uid (7 ∷ []) 7 (unknown ∷ []) (codes "* 1 FETCH (FLAGS (\\Seen))\r\n") (record { uid = None; flags = Some (codes "\\Seen" ∷ []) } ∷ []) refl refl hears) in absurd (omega (arith, same))

-- another UID
another_is_told : HearsUid (7 ∷ []) 7 (codes "* 1 FETCH (UID 8)\r\n") → ⊥
another_is_told hears =
    let same : 8 ≡ 7 = ap the_number (the_uid (7 ∷ []) 7 (unknown ∷ []) (codes "* 1 FETCH (UID 8)\r\n") (record { uid = Some 8; flags = None } ∷ []) refl refl hears) in absurd (omega (arith, same))

-- and the UID at another position
told_of_another : HearsUid (7 ∷ 8 ∷ []) 8 (codes "* 1 FETCH (UID 8)\r\n") → ⊥
told_of_another hears =
    let same : 0 ≡ 8 = ap the_number (the_uid (7 ∷ 8 ∷ []) 8 (unknown ∷ unknown ∷ []) (codes "* 1 FETCH (UID 8)\r\n") (record { uid = Some 8; flags = None } ∷ unknown ∷ []) refl refl hears) in absurd (omega (arith, same))

-- a text by which one that is known is taken for another
not_kept : KeepsUids (7 ∷ []) (codes "* 1 FETCH (UID 8)\r\n") → ⊥
not_kept keeps =
    let f = keeps (λ uid. true) (record { uid = Some 7; flags = None } ∷ []) ((λ e. refl), tt) in
    let each : Each (IsKnownTo (λ uid. true)) (7 ∷ []) (record { uid = Some 8; flags = None } ∷ []) =
    subst (λ (client : Client). Each (IsKnownTo (λ uid. true)) (7 ∷ []) (the_list client.messages)) (sym f.reads) f.each in
    let same : 8 ≡ 7 = ap the_number (each.0 refl) in absurd (omega (arith, same))
