-- What a session's call comes to in the world, with the answer that it gets.
use Rattle.std.specs.Prelude.{◌≡◌, ℕ, ◌<◌, ◌≤◌, true, List, [], length, take, Some, None, Ok, Err}
use Rattle.change_ring.specs.declared.change.Change.{Change}
use Rattle.change_ring.specs.Log.{rows_of, view_at, discards, flags_logged, removals, seen_logged}
use Rattle.mailbox.specs.Events.{in_set}
use Rattle.mailbox.specs.declared.clients.MailFault.{MailFault}
use Rattle.mailbox.specs.declared.clients.MailFault.TheVariants.{Stranger, Lapped, Spent, NoMemory}
use Rattle.world.specs.World as world
use Rattle.world.specs.World.{Config, World, Box, Session, Event, Step, Allowed, Selected, most_entries, pending}
use Rattle.delivery_core.specs.Clients.{Alters, Discards, DiscardsNot, Done, IsStatus, Leaves, Opens, Reads, Refuses}
use Rattle.imap_grammar.specs.Sets.{names_one}
use Rattle.imap_session.specs.Exchange.{Call, Answer, Enter, Look, Read, Count, Alter, Expunge, Feed, Leave, Discard, Entered, Looked, Found, Counted, Altered, Expunged, Fed, Left, Discarded, Refused}

module _ (k : Config) (n : ℕ) (w : World) (event : Event) where
  -- The event leads from the one world to the other, and this holds of the mailbox that session n had selected and of the session, as they were.
  abbrev pub Mails : (Box → Session → Type 0) → World → Type 0
  Mails P v = Step k w event v × Selected w n (λ s. P (w.box s.mailbox) s)

  -- The event was not refused: session n was shown the first of these changes, and the mailbox that it had selected logged the second. This
  -- holds of the mailbox and of the session, as they were.
  abbrev pub IsDone : (Box → Session → List Change) → (Box → List Change) → (Box → Session → Type 0) → World → Type 0
  IsDone shown changes P v = Step k w event v × Selected w n (λ s. Done k w n s (shown (w.box s.mailbox) s) (changes (w.box s.mailbox)) v
      × P (w.box s.mailbox) s)

module _ (n : ℕ) (w : World) where
  -- Session n's call was refused, and nothing changed. A stranger had selected no mailbox; for any other fault this holds.
  abbrev pub IsRefused : MailFault → Type 0 → World → Type 0
  IsRefused Stranger why v = (v ≡ w) × (w.session n ≡ None)
  IsRefused Lapped why v = (v ≡ w) × why
  IsRefused Spent why v = (v ≡ w) × why
  IsRefused NoMemory why v = (v ≡ w) × why

module _ (k : Config) (n m : ℕ) (w : World) where
  -- Session n was not let into mailbox m, and nothing changed. A stranger is one that may not enter now. Any other may: it is told Spent where the
  -- mailbox has no serial left for its cursor, and there alone, and NoMemory where it has one.
  abbrev pub IsTurnedAway : MailFault → World → Type 0
  IsTurnedAway Stranger v = (Allowed k w (world.Enter n m) → ⊥) × (v ≡ w)
  IsTurnedAway Lapped v = ⊥
  IsTurnedAway Spent v = Step k w (world.Enter n m) v × (v ≡ w) × (most_entries ≤ w.opened m)
  IsTurnedAway NoMemory v = Step k w (world.Enter n m) v × (v ≡ w) × (w.opened m < most_entries)

module _ (view : List ℕ) (changes shown : List Change) where
  -- the session's window has all that is pending; it had this view, and was shown these changes
  pub record Shows (b : Box) (s : Session) : Type 0 where
    pub kept : b.base ≤ s.cursor
    pub counted : view ≡ view_at b.log s.cursor
    pub handed : changes ≡ shown

module _ (k : Config) (n : ℕ) (w : World) where
  -- Session n's call leads from world w to world v with this answer.
  abbrev pub Meets : Call → Answer → World → Type 0
  Meets (Enter m) (Entered opening) v = Step k w (world.Enter n m) v × Selected v n (λ s. s.mailbox ≡ m) × Opens k w m (Ok opening)
      × (opening.uidvalidity ≡ k.uidvalidity)
  Meets (Enter m) (Refused fault) v = IsTurnedAway k n m w fault v
  Meets (Look by_uid set) (Looked view) v = (v ≡ w) × Selected w n (λ s. view ≡ view_at (w.box s.mailbox).log s.cursor)
  -- memory is wanted only where the set names a message of the view
  Meets (Look by_uid set) (Refused fault) v = IsRefused n w fault ((fault ≡ NoMemory)
      × Selected w n (λ s. names_one by_uid set (view_at (w.box s.mailbox).log s.cursor) ≡ true)) v
  Meets (Read uid mark) (Found row) v = IsDone k n w (world.Read n uid mark) (λ b s. []) (λ b. seen_logged mark (rows_of b.log) uid)
      (Reads mark uid (Ok row)) v
  Meets (Read uid mark) (Refused fault) v = IsRefused n w fault (Mails k n w (world.Read n uid mark) (Reads mark uid (Err fault)) v) v
  Meets (Count m) (Counted status) v = (v ≡ w) × (m < k.mailboxes) × IsStatus k (w.box m) status × (status.uidvalidity ≡ k.uidvalidity)
  Meets (Count m) (Refused fault) v = (v ≡ w) × (k.mailboxes ≤ m) × (fault ≡ Stranger)
  Meets (Alter uid op) (Altered flags) v = IsDone k n w (world.Store n uid op) (λ b s. []) (λ b. flags_logged (rows_of b.log) uid op)
      (Alters uid op (Ok flags)) v
  Meets (Alter uid op) (Refused fault) v = IsRefused n w fault (Mails k n w (world.Store n uid op) (Alters uid op (Err fault)) v) v
  Meets (Expunge uids) (Expunged view changes gone) v =
      IsDone k n w (world.Expunge n (in_set uids)) pending (λ b. removals (in_set uids) (rows_of b.log)) (λ b s. Shows view changes (pending b s) b s
      × (gone ≡ length (removals (in_set uids) (rows_of b.log)))) v
  Meets (Expunge uids) (Refused fault) v = IsRefused n w fault
      (Mails k n w (world.Expunge n (in_set uids)) (λ b s. Refuses fault (removals (in_set uids) (rows_of b.log)) b s) v) v
  Meets (Feed limit) (Fed view changes) v = IsDone k n w (world.Feed n limit) (λ b s. take limit (pending b s)) (λ b. [])
      (λ b s. Shows view changes (take limit (pending b s)) b s) v
  Meets (Feed limit) (Refused fault) v = IsRefused n w fault (Mails k n w (world.Feed n limit) (λ b s. Refuses fault [] b s) v) v
  Meets (Leave remove) (Left gone) v = Mails k n w (world.Leave n remove) (Leaves remove (Ok gone)) v × (v.session n ≡ None)
  Meets (Leave remove) (Refused fault) v = IsRefused n w fault (Mails k n w (world.Leave n remove) (Leaves remove (Err fault)) v) v
  Meets (Discard m uids) Discarded v = Discards k m (discards (in_set (Some uids)) (rows_of (w.box m).log)) w v
  Meets (Discard m uids) (Refused fault) v = (v ≡ w) × DiscardsNot k m (discards (in_set (Some uids)) (rows_of (w.box m).log)) w fault
  Meets call answer v = ⊥
