-- What a turn of a session has to do with a client's list: which answers of its store it may lead to, and which texts leave the list as it is.
use Rattle.std.specs.Prelude.{◌≡◌, ℕ, ◌<◌, ◌^◌, ◌==◌, Bool, true, false, length, List, [], ◌∷◌, ◌++◌, Option, Some, None, IfSome, if◌then◌else◌}
use Rattle.std.specs.List.{list_all}
use Rattle.change_ring.specs.declared.change.Flags.{Flags}
use Rattle.mailbox.specs.declared.clients.Row.{Row}
use Rattle.mailbox.specs.declared.mailbox.Status.{Status}
use Rattle.imap_session.specs.Exchange.{Call, Answer, Event, Found, Counted, Fed, Expunged, Exchange, Standing, Done, Wait, Write, Put, Enter, Look, Read, Count, Alter, Expunge, Feed, Leave, tagged, Discard}
use Rattle.imap_session.specs.Store.{ViewAfter}
use Rattle.laws_client.specs.Beliefs.{MayShow, Leaves}

-- ---- bytes

-- a byte that stands within a line: no LF
abbrev pub is_inner : ℕ → Bool
is_inner b = if b == 10 then false else true

-- a tag (RFC 9051, 2.2.1): it doesn't begin with a star, and no LF is in it
pub record IsTag (tag : List ℕ) : Type 0 where
  pub first : ℕ
  pub others : List ℕ
  pub is : tag ≡ first ∷ others
  pub no_star : (first == 42) ≡ false
  pub inner : list_all is_inner (first ∷ others) ≡ true

-- words at the end of a line: no LF is in them, and the last byte isn't the brace that ends the count of a literal (4.3)
pub record IsPlain (text : List ℕ) : Type 0 where
  pub front : List ℕ
  pub last : ℕ
  pub is : text ≡ front ++ last ∷ []
  pub no_count : (last == 125) ≡ false
  pub inner : list_all is_inner (front ++ last ∷ []) ≡ true

-- the tags that a session keeps are tags: that of an IDLE, of a message whose bytes come, and of one that waits for its verdict
abbrev pub AreTags : Standing → Type 0
AreTags now = IfSome now.idling IsTag × IfSome now.mailing.begun (λ begun. IsTag begun.tag) × IfSome now.mailing.sent (λ sent. IsTag sent.tag)

-- ---- what a store answers

-- what was read is the row of the UID that was asked for, and its size can be printed
abbrev pub IsRowOf : ℕ → Option Row → Type 0
IsRowOf uid None = Unit {0}
IsRowOf uid (Some row) = (row.uid ≡ uid) × (length row.text.bytes < 2 ^ 64)

abbrev pub IsRead : Call → Option Row → Type 0
IsRead (Read uid mark) row = IsRowOf uid row
IsRead call row = Unit {0}

-- the numbers of a STATUS can be printed
pub record IsCounted (status : Status) : Type 0 where
  pub messages : status.messages < 2 ^ 64
  pub uidnext : status.uidnext < 2 ^ 64
  pub uidvalidity : status.uidvalidity < 2 ^ 64
  pub unseen : status.unseen < 2 ^ 64
  pub deleted : status.deleted < 2 ^ 64
  -- it may have 128 bits, as the sum of the lengths of all texts
  pub size : status.size < 2 ^ 128

-- an answer that a store may give to a session that counts this view: what it shows may be shown, and what it read was asked for
abbrev pub Fits : List ℕ → Call → Answer → Type 0
Fits view call (Fed met changes) = MayShow view changes
Fits view call (Expunged met changes gone) = MayShow view changes
Fits view call (Found row) = IsRead call row
Fits view call (Counted status) = IsCounted status
Fits view call answer = Unit {0}

-- from this view a call and its answer lead to that one
pub record Sees (view : List ℕ) (event : Event) (new : List ℕ) : Type 0 where
  pub leads : ViewAfter view event.answer new
  pub fits : Fits view event.call event.answer

-- and so do these, one after the other, with nothing else between them
abbrev pub SeesAll : List ℕ → List Event → List ℕ → Type 0
SeesAll view [] new = new ≡ view
SeesAll view (event ∷ events) new = (mid : List ℕ) × Sees view event mid × SeesAll mid events new

-- ---- what a session says

-- Whatever the store answers, a client is as right after each text of the exchange as before;
-- and no mailbox is entered or left in it. The lines of changes are no texts of the
-- exchange: of them nothing is asked.
abbrev pub Says : List ℕ → List ℕ → Exchange → Type 0
Says tag view (Done words how) = Leaves view (tagged tag words)
Says tag view (Wait bytes waits) = Leaves view bytes
Says tag view (Write bytes x) = Leaves view bytes × Says tag view x
Says tag view (Put bytes x) = Leaves view bytes × Says tag view x
Says tag view (Enter selected next) = ⊥
Says tag view (Look by_uid set next) = Says tag view (next view)
Says tag view (Read uid mark next) = (row : Option Row) → IsRowOf uid row → Says tag view (next row)
Says tag view (Count mailbox next) = (status : Status) → IsCounted status → Says tag view (next status)
Says tag view (Alter uid change next) = (flags : Option Flags) → Says tag view (next flags)
Says tag view (Expunge uids x) = (new : List ℕ) → Says tag new x
Says tag view (Feed limit x) = (new : List ℕ) → Says tag new x
Says tag view (Leave remove x) = ⊥
Says tag view (Discard mailbox uids x) = Says tag view x
