-- What a session over locks was shown since its SELECT, by small histories: what the definitions say of them, and what they refuse.
use Rattle.std.specs.Prelude.{◌≡◌, ℕ, codes, true, false, List, [], ◌∷◌, None, Some}
use Rattle.std.proofs.Common.{refl, arith}
use Rattle.change_ring.specs.declared.change.Change.{Change}
use Rattle.change_ring.specs.declared.change.Change.TheVariants.{Add, Gone, Flags as SetFlags}
use Rattle.change_ring.specs.declared.change.Flags.{Flags}
use Rattle.change_ring.specs.Log.{no_flags}
use Rattle.delivery_token.specs.declared.Job.{Job}
use Rattle.delivery_token.specs.Text.{undated}
use Rattle.delivery_token.specs.declared.Verdict.TheVariants.{Stored, Refused as Declined}
use Rattle.delivery_token.specs.declared.Refusal.TheVariants.{Full}
use Rattle.mailbox.specs.declared.clients.MailFault.TheVariants.{NoMemory}
use Rattle.house_history.specs.declared.event.Event.{Event}
use Rattle.house_history.specs.declared.event.Event.TheVariants.{Sent, Judged, Changed}
use Rattle.house_history.specs.declared.event.Step.TheVariants as steps
use Rattle.house_history.specs.Events.{changes_in}
use Rattle.imap_session.specs.Exchange as ask
use Rattle.session_thread.specs.declared.locked_store.Entry.{Entry}
use Rattle.session_thread.specs.ByHistory.{WasShownIn, shown_since}
use Rattle.laws_client.specs.Served.{counted_in, messages_in}

abbrev pub seen : Flags
seen = record no_flags { seen = true }

-- ---- what was shown

abbrev pub entered : ask.Event
entered = record { call = ask.Enter 0; answer = ask.Entered (record { count = 1; uidnext = 8; uidvalidity = 5 }) }

abbrev pub fed : List ℕ → List Change → ask.Event
fed view changes = record { call = ask.Feed 64; answer = ask.Fed view changes }

-- a message comes, and is removed by an EXPUNGE that shows its flags first; a look and a read show nothing
shows_both : shown_since [] (entered ∷ fed (7 ∷ []) (Add 8 ∷ []) ∷ record { call = ask.Read 8 true; answer = ask.Found None }
    ∷ record { call = ask.Expunge None; answer = ask.Expunged (7 ∷ 8 ∷ []) (SetFlags 8 seen ∷ []) 1 } ∷ [])
    ≡ Add 8 ∷ SetFlags 8 seen ∷ []
shows_both = refl

-- what is refused shows nothing
refused : shown_since [] (entered ∷ fed (7 ∷ []) (Add 8 ∷ []) ∷ record { call = ask.Feed 64; answer = ask.Refused NoMemory } ∷ []) ≡ Add 8 ∷ []
refused = refl

-- a second SELECT begins anew
anew : shown_since [] (entered ∷ fed (7 ∷ []) (Add 8 ∷ []) ∷ record { call = ask.Leave false; answer = ask.Left 0 } ∷ entered ∷ []) ≡ []
anew = refl

-- ---- what the history says

abbrev pub copy : (number : ℕ) → Job
copy number = record { key = record { seat = 0; serial = 0; message = number; recipient = 0 }; mailbox = 0; text = undated (codes "hi\r\n"); flags = no_flags }

-- A message comes to mailbox 0, a second one is refused, one of mailbox 1 comes, and a client reads the first.
abbrev pub history : List Event
history =
    Sent (copy 0) 0 ∷ Judged (copy 0) (Stored 7) 0 ∷ Sent (copy 1) 1 ∷ Judged (copy 1) (Declined Full) 1 ∷ Sent (record (copy 2) { mailbox = 1 }) 2 ∷ Judged (record (copy 2) { mailbox = 1 }) (Stored 9) 2
    ∷ Changed 0 (steps.Read 7 true) ∷ []

its_changes : changes_in 0 history ≡ Add 7 ∷ SetFlags 7 seen ∷ []
its_changes = refl

-- a session that was let in behind so many changes, and was shown those up to its cursor
abbrev pub at : (start cursor : ℕ) → Entry
at start cursor = record { mailbox = 0; start = start; handle = record { number = 0; slot = 0; serial = 0; at = cursor } }

was_shown : WasShownIn history (Some (at 1 2)) (SetFlags 7 seen ∷ [])
was_shown = record { handle = refl; cursor = refl; within = omega arith; changes = refl }

-- its cursor went on, and it was shown nothing
skipped : WasShownIn history (Some (at 1 2)) [] → ⊥
skipped w = let c = w.cursor in omega (arith, c)

-- another change than the one that was next
another : WasShownIn history (Some (at 1 2)) (Gone 7 ∷ []) → ⊥
another w = let c = w.changes in cc

-- more than the mailbox has
too_many : WasShownIn history (Some (at 1 3)) (SetFlags 7 seen ∷ Gone 7 ∷ []) → ⊥
too_many w = let u = w.within in omega (arith, u)

-- the handle of another mailbox
another_handle : WasShownIn history (Some (record (at 1 1) { mailbox = 1 })) [] → ⊥
another_handle w = let h = w.handle in omega (arith, h)

-- what it counts, and what is there
counts : counted_in history (Some (at 0 1)) ≡ 7 ∷ []
counts = refl

counts_none : counted_in history (Some (at 0 0)) ≡ []
counts_none = refl

there : messages_in 0 history ≡ 7 ∷ []
there = refl
