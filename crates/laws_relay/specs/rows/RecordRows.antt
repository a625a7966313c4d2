-- What came for connections and what they were told, by the record of a worked case; and the keys of copies.
use Rattle.std.specs.Prelude.{◌≡◌, ◌≢◌, ℕ, ◌+◌, false, true, codes, List, [], ◌∷◌, Some, None}
use Rattle.std.specs.Borrow.{Bor}
use Rattle.std.proofs.Common.{refl}
use Rattle.delivery_token.specs.declared.Verdict.TheVariants.{Stored}
use Rattle.house.specs.Scene.{Scene, empty_scene}
use Rattle.house.specs.Setup.{Setup, terms_of}
use Rattle.house.specs.declared.event.Event.TheVariants.{Bytes, Hear, Put, Vanish}
use Rattle.house_peers.specs.Caller.{greeted}
use Rattle.lmtp_machine.specs.declared.reply.Reply.TheVariants.{Delivered, Extensions, Greeting, Okay}
use Rattle.laws_relay.specs.Fates.{Awaited, TurnedAway}
use Rattle.laws_relay.specs.rows.HandedRows.{home, the_submission}
use Rattle.shard_queue.specs.Lane.{set_at}
use Rattle.exactly_once.specs.Promise.{Entry, Other, Replies, Silence, Verdict}
use Rattle.laws_relay.specs.Concluded.{key_at}
use Rattle.laws_relay.specs.RecordLaws.{came_for, has_vanished, told_to, imap_sessions}

abbrev pub setup : Setup
setup = record {
  config = record { seats = 2; shards = 1; mailboxes = 2; sessions = 0; depth = 4; messages = 8; ring = 8; ring_max = 8; first_uid = 1; uidvalidity = 1 };
  connections = 2;
  directory = home;
  host = codes "mx.example.org";
  max_message = 1000;
  compatible = false;
}

-- ---- a record

abbrev pub start : Scene
start = empty_scene setup

-- a connection of this serial was opened at the seat
abbrev pub opened : Scene → (seat serial : ℕ) → Scene
opened s seat serial = record s { caller = set_at s.caller seat (Some (greeted (terms_of setup s.shut) seat serial)); next = set_at s.next seat (serial + 1) }

-- the one at the seat is gone
abbrev pub left : Scene → (seat : ℕ) → Scene
left s seat = record s { caller = set_at s.caller seat None }

abbrev pub bytes : List ℕ → Bor (List ℕ)
bytes piece = record { ref_ptr = (0, 0); now = piece }

pub greets : Greeting ≢ Delivered
greets e = cc

pub extends : Extensions ≢ Delivered
extends e = cc

pub is_fine : Okay ≢ Delivered
is_fine e = cc

-- Two connections, one at each seat; the first is told a verdict, and gone; another comes to its seat.
abbrev pub entries : List Entry
entries =
    record { event = Bytes 1 (bytes (codes "LHLO a.example\r\n")); after = opened start 0 0; piece = Replies 0 (Other Greeting greets ∷ Other Extensions extends ∷ []) }
    ∷ record { event = Bytes 2 (bytes (codes "RSE")); after = opened (opened start 0 0) 1 0; piece = Replies 1 (Other Greeting greets ∷ []) }
    ∷ record { event = Bytes 1 (bytes (codes "RSET\r\nNO")); after = opened (opened start 0 0) 1 0; piece = Replies 0 (Other Okay is_fine ∷ []) }
    ∷ record { event = Put 1; after = opened (opened start 0 0) 1 0; piece = Silence }
    ∷ record { event = Hear 1; after = opened (opened start 0 0) 1 0; piece = Replies 0 (Verdict (record { key = record { seat = 0; serial = 0; message = 0; recipient = 0 }; mailbox = 1; verdict = Stored 7 }) ∷ []) }
    ∷ record { event = Bytes 2 (bytes (codes "T\r\n")); after = opened (opened start 0 0) 1 0; piece = Replies 1 (Other Okay is_fine ∷ []) }
    ∷ record { event = Vanish 1; after = left (opened (opened start 0 0) 1 0) 0; piece = Silence }
    ∷ record { event = Bytes 1 (bytes (codes "LHLO b.example\r\n")); after = opened (left (opened (opened start 0 0) 1 0) 0) 0 1; piece = Replies 0 (Other Greeting greets ∷ []) }
    ∷ []

-- each has its own bytes, also where another stands at its seat later
came_first : came_for imap_sessions 0 0 start entries ≡ codes "LHLO a.example\r\nRSET\r\nNO"
came_first = refl

came_at_the_other_seat : came_for imap_sessions 1 0 start entries ≡ codes "RSET\r\n"
came_at_the_other_seat = refl

came_later : came_for imap_sessions 0 1 start entries ≡ codes "LHLO b.example\r\n"
came_later = refl

came_for_none : came_for imap_sessions 0 2 start entries ≡ []
came_for_none = refl

-- and its own replies, as they are said to it: with each CRLF, and without the marks of standard output
told_first : told_to imap_sessions setup 0 0 start entries
    ≡ codes "220 mx.example.org LMTP ready\r\n250-mx.example.org\r\n250-PIPELINING\r\n250-ENHANCEDSTATUSCODES\r\n250 8BITMIME\r\n250 2.0.0 OK\r\n250 2.1.5 Delivered\r\n"
told_first = refl

told_at_the_other_seat : told_to imap_sessions setup 1 0 start entries ≡ codes "220 mx.example.org LMTP ready\r\n250 2.0.0 OK\r\n"
told_at_the_other_seat = refl

told_later : told_to imap_sessions setup 0 1 start entries ≡ codes "220 mx.example.org LMTP ready\r\n"
told_later = refl

told_none : told_to imap_sessions setup 0 2 start entries ≡ []
told_none = refl

-- whose peer was gone: not that of the one that came to the seat later
vanished_first : has_vanished imap_sessions 0 0 start entries ≡ true
vanished_first = refl

stays_at_the_other_seat : has_vanished imap_sessions 1 0 start entries ≡ false
stays_at_the_other_seat = refl

stays_later : has_vanished imap_sessions 0 1 start entries ≡ false
stays_later = refl

-- ---- keys

-- the second message that was handed over is the first that was submitted, where the first was turned away
second_key : key_at 0 3 (TurnedAway ∷ Awaited the_submission ∷ []) 1 4 ≡ record { seat = 0; serial = 3; message = 0; recipient = 4 }
second_key = refl
