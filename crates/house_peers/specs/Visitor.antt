-- A session that visits a house and speaks IMAP, by itself and at its seat: what came for it, and what it answers over its mailboxes.
use Rattle.std.specs.Prelude.{ℕ, List, ◌≡◌, Bool, true, false, [], Option}
use Rattle.imap_session.specs.Exchange.{Admission, Call, Answer, Folder, Sent, Standing}
use Rattle.house_peers.specs.Imap.{AnswersBytes, imap}
use Rattle.delivery_token.specs.declared.CopyKey.{CopyKey}
use Rattle.delivery_token.specs.declared.Job.{Job}
use Rattle.delivery_token.specs.declared.Verdict.{Verdict}
use Rattle.delivery_token.specs.declared.log.Noted.{Noted}
use Rattle.house_peers.specs.AnyVisitor as any
pub use Rattle.house_peers.specs.AnyVisitor.{works, answers, waits, rests, stalls}

abbrev pub Visitor : Type 0
Visitor = any.Visitor imap

-- one that was just let in, with these mailboxes, and comes in so
abbrev pub greeted : Admission → List Folder → Visitor
greeted admission folders = any.greeted imap (admission, folders)

abbrev pub more_waits : Visitor → List ℕ → Visitor
more_waits = any.session_more_waits imap

-- some of what waited was answered over a store, in its order, and this was said
abbrev pub Answers : {S : Type 0} (step : S → Call → Answer → S → Type 0) (before : Visitor) (old new : S) (after : Visitor) (said : List ℕ) → Type 0
Answers step before old new after said = AnswersBytes step before.standing before.waits old new after.standing after.waits said

-- nothing waits that may be answered
abbrev pub HasAnswered : Visitor → Type 0
HasAnswered v = imap.HasAnswered v.standing v.waits

-- ---- at its seat

abbrev pub SeatedVisitor : Type 0
SeatedVisitor = any.SeatedVisitor imap

abbrev pub keys_of : (seat serial : ℕ) → Option Sent → List CopyKey
keys_of = any.keys_of imap

abbrev pub copies_of : (seat serial : ℕ) → Option Sent → List Job
copies_of = any.copies_of imap

abbrev pub sent_by : SeatedVisitor → Option Sent
sent_by = any.sent_by imap

abbrev pub IsAnswered : (seat : ℕ) → List Noted → SeatedVisitor → Verdict → Type 0
IsAnswered = any.IsAnswered imap

abbrev pub Awaits : (seat : ℕ) (heard : List Noted) (v : SeatedVisitor) → Type 0
Awaits = any.Awaits imap

abbrev pub IsSettled : (seat : ℕ) → List Noted → SeatedVisitor → Type 0
IsSettled = any.IsSettled imap

abbrev pub seated_greeted : (serial : ℕ) → Admission → List Folder → SeatedVisitor
seated_greeted serial admission folders = any.seated_greeted imap serial (admission, folders)

abbrev pub Works : {S : Type 0} (step : S → Call → Answer → S → Type 0) (seat : ℕ) (v : SeatedVisitor) (old new : S) (after : SeatedVisitor)
    (said : List ℕ) → Type 0
Works step seat v old new after said = any.Works imap step seat v old new after said

abbrev pub told : SeatedVisitor → Standing → SeatedVisitor
told = any.told imap

abbrev pub GoesOn : {S : Type 0} (step : S → Call → Answer → S → Type 0) (whole : Bool) (seat : ℕ) (heard : List Noted) (v : SeatedVisitor)
    (old new : S) (after : SeatedVisitor) (said : List ℕ) → Type 0
GoesOn step whole seat heard v old new after said = any.GoesOn imap step whole seat heard v old new after said

abbrev pub unread : SeatedVisitor → SeatedVisitor
unread = any.unread imap

-- It does what it can now. Where its client is gone that is nothing: it is done as soon as no verdict is awaited, or the one that is was heard.
pub data Proceeds {S : Type 0} (step : S → Call → Answer → S → Type 0) (whole : Bool) (seat : ℕ) (heard : List Noted) (v : SeatedVisitor)
    (old new : S) (after : SeatedVisitor) (said : List ℕ) : Type 0 where
  talks : v.gone ≡ false → GoesOn step whole seat heard v old new after said → Proceeds step whole seat heard v old new after said
  lingers : v.gone ≡ true → new ≡ old → after ≡ v → said ≡ [] → Proceeds step whole seat heard v old new after said
