-- The parts of a FETCH.
use Rattle.std.proofs.Common.{◌≡◌, ℕ, ◌+◌, ◌<◌, Bool, true, false, if◌then◌else◌, length, drop, get_or, add-one, drop-cons, List, Option, Some, refl, subst}
use Rattle.mailbox.specs.declared.clients.MailFault.{MailFault}
use Rattle.mailbox.specs.declared.clients.MailFault.TheVariants.{NoMemory}
use Rattle.mailbox.specs.declared.clients.Row.{Row}
use Rattle.imap_grammar.specs.declared.command.Fetch.{Fetch}
use Rattle.imap_session.specs.Exchange as ex
use Rattle.imap_session.specs.Exchange.{Call, Answer, Found, Exchange, Standing}
use Rattle.imap_session.specs.Commands.{on_found, fetched, fetching}
use Rattle.imap_session.specs.Response.{Response}
use Rattle.imap_session.specs.inner.Response.{adding}
use Rattle.imap_session.specs.inner.Store.{Reaches, Stops}
use Rattle.imap_session.proofs.Runs.{added, reaches_read, reaches_write, reaches_then, stops_write, stops_then}

-- a message that is there: its answer is what is left to write
pub reads_there : {S : Type 0} (step : S → Call → Answer → S → Type 0) (tag : List ℕ) (now : Standing) (uid : ℕ) (mark : Bool) (text : Row → List ℕ) (x y : Exchange) (row : Row) (old new : S) (before after : Response)
    → step old (ex.Read uid mark) (Found (Some row)) new → after ≡ adding (text row) before
    → Reaches step tag now now (ex.Read uid mark (on_found (λ r. ex.Write (text r) x) y)) x old new before after
reads_there step tag now uid mark text x y row old new before after h e =
    let next : Option Row → Exchange = on_found (λ r. ex.Write (text r) x) y in
    reaches_then step tag now now now (ex.Read uid mark next) (ex.Write (text row) x) x old new new before before after
    (reaches_read step tag now uid mark next (Some row) old new before h)
    (reaches_write step tag now (text row) x new before after (added (text row) before after e))

-- the same, where memory for its answer is refused
pub reads_starved : {S : Type 0} (step : S → Call → Answer → S → Type 0) (tag : List ℕ) (now : Standing) (uid : ℕ) (mark : Bool) (text : Row → List ℕ) (x y : Exchange) (row : Row) (fault : MailFault) (old new : S) (before after : Response)
    → step old (ex.Read uid mark) (Found (Some row)) new → fault ≡ NoMemory → after ≡ before
    → Stops step tag now now (ex.Read uid mark (on_found (λ r. ex.Write (text r) x) y)) fault old new before after
reads_starved step tag now uid mark text x y row fault old new before after h f e =
    let next : Option Row → Exchange = on_found (λ r. ex.Write (text r) x) y in
    rw (f, e) (stops_then step tag now now now (ex.Read uid mark next) (ex.Write (text row) x) NoMemory old new new before before before
    (reaches_read step tag now uid mark next (Some row) old new before h)
    (stops_write step tag now (text row) x new before))

-- what is left of a FETCH is a read of the next message
pub fetching_next : (fetch : Fetch) (mark : Bool) (view : List ℕ) (done : Bool → Exchange) (uids : List ℕ) (i : ℕ) (gone : Bool) → i < length uids
    → fetching fetch mark view done (drop i uids) gone ≡ ex.Read (get_or uids i 0) mark (on_found
    (λ row. ex.Write (fetched fetch view (get_or uids i 0) row) (fetching fetch mark view done (drop (i + 1) uids) gone))
    (fetching fetch mark view done (drop (i + 1) uids) true))
fetching_next fetch mark view done uids i gone h = rw (add-one, drop-cons uids i 0) refl

pub one_of_two : (f : Bool → Exchange) (here gone : Bool) → (if here then f gone else f true) ≡ f (if here then gone else true)
one_of_two f true gone = refl
one_of_two f false gone = refl

-- a FETCH goes on by one message
pub fetches_more : {S : Type 0} (step : S → Call → Answer → S → Type 0) (tag : List ℕ) (now : Standing) (fetch : Fetch) (mark : Bool) (view : List ℕ) (done : Bool → Exchange) (uids : List ℕ) (i : ℕ) (gone here : Bool) (x : Exchange) (old mid new : S) (first second third : Response)
    → i < length uids
    → Reaches step tag now now x (fetching fetch mark view done (drop i uids) gone) old mid first second
    → Reaches step tag now now
    (ex.Read (get_or uids i 0) mark (on_found
    (λ row. ex.Write (fetched fetch view (get_or uids i 0) row) (fetching fetch mark view done (drop (i + 1) uids) gone))
    (fetching fetch mark view done (drop (i + 1) uids) true)))
    (if here then fetching fetch mark view done (drop (i + 1) uids) gone else fetching fetch mark view done (drop (i + 1) uids) true) mid new second third
    → Reaches step tag now now x (fetching fetch mark view done (drop (i + 1) uids) (if here then gone else true)) old new first third
fetches_more {S} step tag now fetch mark view done uids i gone here x old mid new first second third lt p q =
    let f : Bool → Exchange = λ g. fetching fetch mark view done (drop (i + 1) uids) g in
    let P : Exchange → Type 0 = λ y. Reaches step tag now now x y old mid first second in
    let Q : Exchange → Type 0 = λ z. Reaches step tag now now x z old new first third in
    subst Q (one_of_two f here gone)
    (reaches_then step tag now now now x _ (if here then f gone else f true) old mid new first second third
    (subst P (fetching_next fetch mark view done uids i gone lt) p) q)
