-- The parts of a STORE.
use Rattle.std.proofs.Common.{◌≡◌, ℕ, ◌+◌, ◌<◌, Bool, true, false, if◌then◌else◌, length, [], drop, get_or, add-one, drop-cons, List, Option, Some, refl, subst}
use Rattle.mailbox.specs.declared.clients.MailFault.{MailFault}
use Rattle.mailbox.specs.declared.clients.MailFault.TheVariants.{NoMemory}
use Rattle.change_ring.specs.declared.change.Flags.{Flags}
use Rattle.change_ring.specs.View.{position}
use Rattle.imap_answers.specs.Answers.{flags_answer}
use Rattle.imap_grammar.specs.declared.command.Store.{Store}
use Rattle.imap_session.specs.Exchange as ex
use Rattle.imap_session.specs.Exchange.{Call, Answer, Altered, Exchange, Standing}
use Rattle.imap_session.specs.Commands.{on_found, stored, storing}
use Rattle.imap_session.specs.Response.{Response}
use Rattle.imap_session.specs.inner.Response.{adding}
use Rattle.imap_session.specs.inner.Store.{Reaches, Stops}
use Rattle.imap_session.proofs.Fetching.{one_of_two}
use Rattle.imap_session.proofs.Runs.{added, reaches_alter, reaches_write, reaches_then, stops_write, stops_then}

-- what is told of a message, or nothing where the client asked for silence
reaches_told : {S : Type 0} (step : S → Call → Answer → S → Type 0) (tag : List ℕ) (now : Standing) (silent : Bool) (text : List ℕ) (x : Exchange) (s : S) (before after : Response)
    → after ≡ adding (if silent then [] else text) before → Reaches step tag now now (if silent then x else ex.Write text x) x s s before after
reaches_told step tag now true text x s before after e = record {
  events = [];
  bytes = [];
  leads = λ more turn h. (more, h);
  met = refl;
  wrote = added [] before after e;
}
reaches_told step tag now false text x s before after e = reaches_write step tag now text x s before after (added text before after e)

stops_told : {S : Type 0} (step : S → Call → Answer → S → Type 0) (tag : List ℕ) (now : Standing) (silent : Bool) (text : List ℕ) (x : Exchange) (s : S) (before : Response) → silent ≡ false
    → Stops step tag now now (if silent then x else ex.Write text x) NoMemory s s before before
stops_told step tag now true text x s before e = absurd cc
stops_told step tag now false text x s before e = stops_write step tag now text x s before

-- a message that is there: its answer is what is left to write
pub alters_there : {S : Type 0} (step : S → Call → Answer → S → Type 0) (tag : List ℕ) (now : Standing) (store : Store) (view : List ℕ) (uid : ℕ) (x y : Exchange) (flags : Flags) (old new : S) (before after : Response)
    → step old (ex.Alter uid store.change) (Altered (Some flags)) new → after ≡ adding (if store.silent then [] else flags_answer store.by_uid (position uid view) uid flags) before
    → Reaches step tag now now (ex.Alter uid store.change (on_found (λ r. stored store view uid r x) y)) x old new before after
alters_there step tag now store view uid x y flags old new before after h e =
    let next : Option Flags → Exchange = on_found (λ r. stored store view uid r x) y in
    reaches_then step tag now now now (ex.Alter uid store.change next) (stored store view uid flags x) x old new new before before after
    (reaches_alter step tag now uid store.change next (Some flags) old new before h)
    (reaches_told step tag now store.silent (flags_answer store.by_uid (position uid view) uid flags) x new before after e)

-- the same, where memory for its answer is refused
pub alters_starved : {S : Type 0} (step : S → Call → Answer → S → Type 0) (tag : List ℕ) (now : Standing) (store : Store) (view : List ℕ) (uid : ℕ) (x y : Exchange) (flags : Flags) (fault : MailFault) (old new : S) (before after : Response)
    → step old (ex.Alter uid store.change) (Altered (Some flags)) new → fault ≡ NoMemory → store.silent ≡ false → after ≡ before
    → Stops step tag now now (ex.Alter uid store.change (on_found (λ r. stored store view uid r x) y)) fault old new before after
alters_starved step tag now store view uid x y flags fault old new before after h f told e =
    let next : Option Flags → Exchange = on_found (λ r. stored store view uid r x) y in
    rw (f, e) (stops_then step tag now now now (ex.Alter uid store.change next) (stored store view uid flags x) NoMemory old new new before before before
    (reaches_alter step tag now uid store.change next (Some flags) old new before h)
    (stops_told step tag now store.silent (flags_answer store.by_uid (position uid view) uid flags) x new before told))

-- what is left of a STORE is a change of the next message
pub storing_next : (store : Store) (view : List ℕ) (done : Bool → Exchange) (uids : List ℕ) (i : ℕ) (gone : Bool) → i < length uids
    → storing store view done (drop i uids) gone ≡ ex.Alter (get_or uids i 0) store.change (on_found
    (λ flags. stored store view (get_or uids i 0) flags (storing store view done (drop (i + 1) uids) gone))
    (storing store view done (drop (i + 1) uids) true))
storing_next store view done uids i gone h = rw (add-one, drop-cons uids i 0) refl

-- a STORE goes on by one message
pub stores_more : {S : Type 0} (step : S → Call → Answer → S → Type 0) (tag : List ℕ) (now : Standing) (store : Store) (view : List ℕ) (done : Bool → Exchange) (uids : List ℕ) (i : ℕ) (gone here : Bool) (x : Exchange) (old mid new : S) (first second third : Response)
    → i < length uids
    → Reaches step tag now now x (storing store view done (drop i uids) gone) old mid first second
    → Reaches step tag now now
    (ex.Alter (get_or uids i 0) store.change (on_found
    (λ flags. stored store view (get_or uids i 0) flags (storing store view done (drop (i + 1) uids) gone))
    (storing store view done (drop (i + 1) uids) true)))
    (if here then storing store view done (drop (i + 1) uids) gone else storing store view done (drop (i + 1) uids) true) mid new second third
    → Reaches step tag now now x (storing store view done (drop (i + 1) uids) (if here then gone else true)) old new first third
stores_more {S} step tag now store view done uids i gone here x old mid new first second third lt p q =
    let f : Bool → Exchange = λ g. storing store view done (drop (i + 1) uids) g in
    let P : Exchange → Type 0 = λ y. Reaches step tag now now x y old mid first second in
    let Q : Exchange → Type 0 = λ z. Reaches step tag now now x z old new first third in
    subst Q (one_of_two f here gone)
    (reaches_then step tag now now now x _ (if here then f gone else f true) old mid new first second third
    (subst P (storing_next store view done uids i gone lt) p) q)
