-- Clients that know what they asked, as they hear their answers; what entries are of whom; and views of a small world.
use Rattle.std.specs.Prelude.{◌≡◌, ℕ, ◌==◌, if◌then◌else◌, true, false, codes, List, [], ◌∷◌, ◌++◌, Some, None}
use Rattle.std.proofs.Common.{refl}
use Rattle.std.specs.Borrow.{Bor}
use Rattle.change_ring.specs.declared.change.Change.TheVariants.{Add, Gone}
use Rattle.imap_grammar.specs.Reading.{read}
use Rattle.house.specs.Scene.{Scene}
use Rattle.house.specs.declared.event.Event.TheVariants.{Enter, Leave, Say}
use Rattle.exactly_once.specs.Promise.{Entry, Lines, Silence}
use Rattle.world.specs.World.{World, empty_world}
use Rattle.laws_client.specs.Client.{Known, knowing, unknown}
use Rattle.laws_client.specs.Clients.{has_ok, hears, hears_all}
use Rattle.imap_session.specs.Happenings.{Answer, Words}
use Rattle.laws_client.specs.ClientRecords.{began_by_then, lets_in, sent_in, stays_by_then, user_in}
use Rattle.laws_client.specs.HouseClients.{shown_in}
use Rattle.laws_client.specs.Views.{messages_of, view_of}

-- ---- SELECT, EXAMINE, CLOSE and UNSELECT

-- what SELECT says of a mailbox with two messages
abbrev pub two : List ℕ
two = codes "* FLAGS (\\Seen)\r\n* 2 EXISTS\r\n* OK [UIDVALIDITY 1] UIDs valid\r\n* OK [UIDNEXT 3] Predicted next UID\r\n"

selected : hears None (Answer (codes "a SELECT INBOX") (two ++ codes "a OK [READ-WRITE] SELECT completed\r\n")) ≡ Some (knowing (Some (unknown ∷ unknown ∷ [])))
unfolding read
selected = refl

-- a SELECT that is refused: it is in no mailbox
refused : hears (Some (knowing (Some (unknown ∷ [])))) (Answer (codes "a SELECT INBOX") (codes "a NO Out of memory\r\n")) ≡ None
unfolding read
refused = refl

-- or that comes before its LOGIN
too_early : hears (Some (knowing (Some (unknown ∷ [])))) (Answer (codes "a SELECT INBOX") (codes "a BAD Wrong state\r\n")) ≡ None
unfolding read
too_early = refl

-- and so where it was told that the mailbox is closed
closed_first : hears (Some (knowing (Some (unknown ∷ [])))) (Answer (codes "a SELECT x") (codes "* OK [CLOSED] Previous mailbox is closed\r\na NO [NONEXISTENT] No such mailbox\r\n")) ≡ None
unfolding read
closed_first = refl

-- another mailbox: the list begins anew
selected_again : hears (Some (knowing (Some (unknown ∷ [])))) (Answer (codes "b EXAMINE INBOX") (codes "* OK [CLOSED] Previous mailbox is closed\r\n" ++ two ++ codes "b OK [READ-ONLY] EXAMINE completed\r\n")) ≡ Some (knowing (Some (unknown ∷ unknown ∷ [])))
unfolding read
selected_again = refl

left : hears (Some (knowing (Some (unknown ∷ [])))) (Answer (codes "c CLOSE") (codes "c OK CLOSE completed\r\n")) ≡ None
unfolding read
left = refl

-- a CLOSE that is refused leaves it where it is
stays : hears (Some (knowing (Some (unknown ∷ [])))) (Answer (codes "c CLOSE") (codes "c NO Mailbox is spent\r\n")) ≡ Some (knowing (Some (unknown ∷ [])))
unfolding read
stays = refl

-- the OK of another tag isn't its own, and one within a line is none
another_tag : has_ok true (codes "a") (codes "b OK NOOP completed\r\n") ≡ false
another_tag = refl

within_a_line : has_ok true (codes "a") (codes "* NO a OK \r\nb OK x\r\n") ≡ false
within_a_line = refl

behind_a_line : has_ok true (codes "a") (codes "* OK [CLOSED] x\r\na OK y\r\n") ≡ true
behind_a_line = refl

-- ---- a whole life: it selects, learns a UID, a message is gone, it leaves, and what is said then isn't of its list

known : Known
known = record { uid = Some 2; flags = None }

life : hears_all None (Words (codes "* PREAUTH IMAP4rev2 server ready\r\n") ∷ Answer (codes "a SELECT INBOX") (two ++ codes "a OK [READ-WRITE] SELECT completed\r\n")
    ∷ Answer (codes "b FETCH 2 UID") (codes "* 2 FETCH (UID 2)\r\nb OK FETCH completed\r\n") ∷ Words (codes "* 1 EXPUNGE\r\n") ∷ [])
    ≡ Some (knowing (Some (record { uid = Some 2; flags = None } ∷ [])))
unfolding read
life = refl

-- ---- of whom an entry is

at_first : (user : Bor (List ℕ)) → lets_in 0 (Enter 1 user) ≡ true
at_first user = refl

at_second : (user : Bor (List ℕ)) → lets_in 0 (Enter 2 user) ≡ false
at_second user = refl

whose : (user : Bor (List ℕ)) → user_in 0 (Enter 1 user) (codes "bob") ≡ user.now
whose user = refl

whose_else : (user : Bor (List ℕ)) → user_in 0 (Enter 2 user) (codes "bob") ≡ codes "bob"
whose_else user = refl

-- the first session was let in from the second scene, and gone behind the fourth; another was let in between
abbrev pub visits : (user : Bor (List ℕ)) → (a b c d : Scene) → List Entry
visits user a b c d =
    record { event = Enter 2 user; after = a; piece = Silence } ∷ record { event = Enter 1 user; after = b; piece = Silence } ∷ record { event = Leave 2; after = c; piece = Silence }
    ∷ record { event = Leave 1; after = d; piece = Silence } ∷ []

let_in_there : (user : Bor (List ℕ)) → (s a b c d : Scene) → began_by_then 0 empty_world s (visits user a b c d) ≡ a.world
let_in_there user s a b c d = refl

the_other_there : (user : Bor (List ℕ)) → (s a b c d : Scene) → began_by_then 1 empty_world s (visits user a b c d) ≡ s.world
the_other_there user s a b c d = refl

stays_so_far : (user : Bor (List ℕ)) → (a b c : Scene) → stays_by_then 0 false (record { event = Enter 2 user; after = a; piece = Silence } ∷ record { event = Enter 1 user; after = b; piece = Silence } ∷ record { event = Leave 2; after = c; piece = Silence } ∷ []) ≡ true
stays_so_far user a b c = refl

gone_at_last : (user : Bor (List ℕ)) → (a b c d : Scene) → stays_by_then 0 false (visits user a b c d) ≡ false
gone_at_last user a b c d = refl

its_own : (bytes : Bor (List ℕ)) → sent_in 1 (Say 2 bytes) ≡ bytes.now
its_own bytes = refl

of_another : (bytes : Bor (List ℕ)) → sent_in 1 (Say 1 bytes) ≡ []
of_another bytes = refl

printed_to_it : shown_in 0 (Lines 1 (codes "a" ∷ codes "b" ∷ [])) ≡ codes "a\r\nb\r\n"
printed_to_it = refl

printed_to_another : shown_in 0 (Lines 2 (codes "a" ∷ [])) ≡ []
printed_to_another = refl

-- ---- views

-- two messages came, and one is gone, which session 0 wasn't shown; session 1 has selected nothing
abbrev pub small : World
small = record empty_world {
  box = λ m. record { log = Add 1 ∷ Add 2 ∷ Gone 1 ∷ []; base = 0; accepted = [] };
  session = λ n. if n == 0 then Some (record { mailbox = 0; start = 0; cursor = 2; shown = Add 1 ∷ Add 2 ∷ [] }) else None;
}

counts : view_of small 0 ≡ 1 ∷ 2 ∷ []
counts = refl

counts_nothing : view_of small 1 ≡ []
counts_nothing = refl

there : messages_of (small.box 0) ≡ 2 ∷ []
there = refl
