-- Mailboxes by name, and parts of an exchange that follow one another where the selected mailbox may change.
use Rattle.std.proofs.Common.{◌≡◌, ℕ, Bool, List, [], Option, Some, None, Result, Ok, Err, refl}
use Rattle.mailbox.specs.declared.clients.MailFault.{MailFault}
use Rattle.mailbox.specs.declared.clients.MailFault.TheVariants.{NoMemory}
use Rattle.mailbox.specs.declared.clients.Opening.{Opening}
use Rattle.mailbox.specs.declared.mailbox.Status.{Status}
use Rattle.imap_session.specs.declared.standing.Selected.{Selected}
use Rattle.imap_session.specs.declared.standing.Profile.{Profile}
use Rattle.imap_session.specs.declared.standing.Profile.TheVariants.{Standard, Compatible}
use Rattle.imap_grammar.specs.Verbs.{verb_of}
use Rattle.imap_grammar.specs.declared.command.Command.{Command}
use Rattle.imap_grammar.specs.declared.command.Verb.{Verb}
use Rattle.std.specs.Prelude.{IfErr, IfOk}
use Rattle.imap_session.specs.Exchange as ex
use Rattle.imap_session.specs.Exchange.{Call, Answer, Counted, Refused, Exchange, Folder, Standing}
use Rattle.imap_session.specs.Commands.{closing, entering, folder_of, on_folder, opened, says, selecting, subscribing, telling_recent, wanting, entered_text}
use Rattle.imap_answers.specs.Answers.{opening_text}
use Rattle.imap_session.specs.Response.{Response}
use Rattle.imap_session.specs.inner.Response.{Adds, adding}
use Rattle.imap_session.specs.inner.Store.{Reaches, Stops, Does, Moves, last, recent_line}
use Rattle.imap_session.proofs.Runs.{added, nothing_added, reaches_count, reaches_here, reaches_put, reaches_then, reaches_unsaid, reaches_write, stops_count, stops_then, stops_write}
use Rattle.imap_session.proofs.Saying.{does_then}
use Rattle.imap_session.specs.declared.texts.ResponseText.TheVariants as texts
use Rattle.imap_session.specs.Texts.{response_text}
use Rattle.imap_session.specs.declared.texts.ResponseText.{ResponseText}

-- ---- one after the other

pub moves_then : {S V : Type 0} (step : S → Call → Answer → S → Type 0) (from between to : Option Selected) (x y : Exchange) (z : V → Exchange) (old mid new : S) (first second third : Response) (r : Result V MailFault)
    → ((tag : List ℕ) (now : Standing) → now.selected ≡ from → Reaches step tag now (record now { selected = between }) x y old mid first second)
    → Moves step between to y z mid new second third r → Moves step from to x z old new first third r
moves_then step from between to x y z old mid new first second third (Ok v) p q = λ tag now was.
    reaches_then step tag now (record now { selected = between }) (record now { selected = to }) x y (z v) old mid new first second third
    (p tag now was) (q tag (record now { selected = between }) refl)
moves_then step from between to x y z old mid new first second third (Err fault) p q = λ tag now was.
    stops_then step tag now (record now { selected = between }) (record now { selected = to }) x y fault old mid new first second third
    (p tag now was) (q tag (record now { selected = between }) refl)

-- the second part leaves the selected mailbox as it is
pub moves_then_does : {S V : Type 0} (step : S → Call → Answer → S → Type 0) (from to : Option Selected) (x y : Exchange) (z : V → Exchange) (old mid new : S) (first second third : Response) (r : Result V MailFault)
    → ((tag : List ℕ) (now : Standing) → now.selected ≡ from → Reaches step tag now (record now { selected = to }) x y old mid first second)
    → Does step y z mid new second third r → Moves step from to x z old new first third r
moves_then_does step from to x y z old mid new first second third (Ok v) p q = λ tag now was.
    reaches_then step tag now (record now { selected = to }) (record now { selected = to }) x y (z v) old mid new first second third
    (p tag now was) (q tag (record now { selected = to }))
moves_then_does step from to x y z old mid new first second third (Err fault) p q = λ tag now was.
    stops_then step tag now (record now { selected = to }) (record now { selected = to }) x y fault old mid new first second third
    (p tag now was) (q tag (record now { selected = to }))

-- ---- names

pub does_wanting : {S V : Type 0} (step : S → Call → Answer → S → Type 0) (x : Exchange) (z : V → Exchange) (old new : S) (before after : Response) (r : Result V MailFault)
    → Does step x z old new before after r → Does step (wanting x) z old new before after r
does_wanting step x z old new before after (Ok v) p = λ tag now.
    reaches_then step tag now now now (wanting x) x (z v) old old new before before after
    (reaches_write step tag now [] x old before before (nothing_added before)) (p tag now)
does_wanting step x z old new before after (Err fault) p = λ tag now.
    stops_then step tag now now now (wanting x) x fault old old new before before after
    (reaches_write step tag now [] x old before before (nothing_added before)) (p tag now)

-- memory was wanted for room, which is held then
pub moves_holding : {S V : Type 0} (step : S → Call → Answer → S → Type 0) (from to : Option Selected) (x : Exchange) (z : V → Exchange) (old new : S) (before between after : Response) (r : Result V MailFault)
    → Adds [] before between → Moves step from to x z old new between after r → Moves step from to (wanting x) z old new before after r
moves_holding step from to x z old new before between after (Ok v) h p = λ tag now was.
    reaches_then step tag now now (record now { selected = to }) (wanting x) x (z v) old old new before between after
    (reaches_write step tag now [] x old before between h) (p tag now was)
moves_holding step from to x z old new before between after (Err fault) h p = λ tag now was.
    stops_then step tag now now (record now { selected = to }) (wanting x) x fault old old new before between after
    (reaches_write step tag now [] x old before between h) (p tag now was)

-- no folder has the name
pub reaches_missing : {S : Type 0} (step : S → Call → Answer → S → Type 0) (tag : List ℕ) (now : Standing) (name : List ℕ) (folders : List Folder) (next : Folder → Exchange) (s : S) (text : Response)
    → folder_of name folders ≡ None → Reaches step tag now now (on_folder name folders next) (says (response_text texts.NoSuchMailbox)) s s text text
reaches_missing step tag now name folders next s text h = rw h (reaches_here step tag now (says (response_text texts.NoSuchMailbox)) s text)

-- the same where memory was wanted first
pub reaches_wanted : {S : Type 0} (step : S → Call → Answer → S → Type 0) (tag : List ℕ) (now : Standing) (x y : Exchange) (s : S) (text : Response)
    → Reaches step tag now now x y s s text text → Reaches step tag now now (wanting x) y s s text text
reaches_wanted step tag now x y s text p =
    reaches_then step tag now now now (wanting x) x y s s s text text text (reaches_write step tag now [] x s text text (nothing_added text)) p

-- ---- writes that are refused

pub starves_write : {S : Type 0} (step : S → Call → Answer → S → Type 0) (tag : List ℕ) (now : Standing) (bytes : List ℕ) (x : Exchange) (fault : MailFault) (s : S) (before after : Response)
    → fault ≡ NoMemory → after ≡ before → Stops step tag now now (ex.Write bytes x) fault s s before after
starves_write step tag now bytes x fault s before after f e = rw (f, e) (stops_write step tag now bytes x s before)

-- ---- a mailbox that was entered

tells_recent : {S : Type 0} (step : S → Call → Answer → S → Type 0) (profile : Profile) (x : Exchange) (tag : List ℕ) (now : Standing) (s : S) (before after : Response)
    → Adds (recent_line profile) before after → Reaches step tag now now (telling_recent profile x) x s s before after
tells_recent step Standard x tag now s before after t = reaches_unsaid step tag now x s before after t
tells_recent step Compatible x tag now s before after t = reaches_put step tag now (recent_line Compatible) x s before after t

pub tells_opening : {S : Type 0} (step : S → Call → Answer → S → Type 0) (profile : Profile) (read_only : Bool) (name : List ℕ) (opening : Opening) (text : ResponseText) (s : S) (before mid after : Response)
    → Adds (opening_text read_only name opening) before mid
    → Adds (recent_line profile) mid after
    → text ≡ entered_text read_only
    → Does step (opened profile read_only name opening) last s s before after (Ok text)
tells_opening step profile read_only name opening text s before mid after t recent w = λ tag now. rw w
    (let said : Exchange = says (response_text (entered_text read_only)) in
    reaches_then step tag now now now (opened profile read_only name opening) (telling_recent profile said) said s s s before mid after
    (reaches_put step tag now (opening_text read_only name opening) (telling_recent profile said) s before mid t)
    (tells_recent step profile said tag now s mid after recent))

pub entering_then : {S V : Type 0} (step : S → Call → Answer → S → Type 0) (from to : Option Selected) (profile : Profile) (read_only : Bool) (folder : Folder) (number : ℕ) (name : List ℕ) (opening : Opening) (z : V → Exchange) (old mid new : S) (before after : Response) (r : Result V MailFault)
    → number ≡ folder.mailbox → name ≡ folder.name
    → ((tag : List ℕ) (now : Standing) → now.selected ≡ from → Reaches step tag now (record now { selected = to })
    (ex.Enter (record { mailbox = number; read_only = read_only }) (opened profile read_only name)) (opened profile read_only name opening) old mid before before)
    → Does step (opened profile read_only name opening) z mid new before after r
    → Moves step from to (entering profile read_only folder) z old new before after r
entering_then step from to profile read_only folder number name opening z old mid new before after r n m p q =
    rw (← n, ← m)
    (moves_then_does step from to (ex.Enter (record { mailbox = number; read_only = read_only }) (opened profile read_only name)) (opened profile read_only name opening)
    z old mid new before before after r p q)

-- the store refused to enter it
pub entering_refused : {S V : Type 0} (step : S → Call → Answer → S → Type 0) (from to : Option Selected) (profile : Profile) (read_only : Bool) (folder : Folder) (number : ℕ) (name : List ℕ) (fault : MailFault) (z : V → Exchange) (old new : S) (before between : Response)
    → number ≡ folder.mailbox → name ≡ folder.name → Adds [] before between
    → ((tag : List ℕ) (now : Standing) → now.selected ≡ from → Stops step tag now (record now { selected = to })
    (ex.Enter (record { mailbox = number; read_only = read_only }) (opened profile read_only name)) fault old new between between)
    → Moves step from to (wanting (entering profile read_only folder)) z old new before between (Err fault)
entering_refused {S} {V} step from to profile read_only folder number name fault z old new before between n m h p =
    rw (← n, ← m)
    (moves_holding {V = V} step from to (ex.Enter (record { mailbox = number; read_only = read_only }) (opened profile read_only name)) z old new before between between (Err fault) h p)

-- memory was refused, and the rest isn't done
pub starves_wanting : {S V : Type 0} (step : S → Call → Answer → S → Type 0) (sel : Option Selected) (x : Exchange) (z : V → Exchange) (s : S) (text : Response)
    → Moves step sel sel (wanting x) z s s text text (Err NoMemory)
starves_wanting step sel x z s text = λ tag now was. rw (← was) (stops_write step tag now [] x s text)

pub selects : {S V : Type 0} (step : S → Call → Answer → S → Type 0) (from between to : Option Selected) (profile : Profile) (folders : List Folder) (read_only : Bool) (name given : List ℕ) (z : V → Exchange) (old mid new : S) (first second third : Response) (r : Result V MailFault)
    → given ≡ name
    → ((x : Exchange) (tag : List ℕ) (now : Standing) → now.selected ≡ from → Reaches step tag now (record now { selected = between }) (closing from x) x old mid first second)
    → Moves step between to (wanting (on_folder given folders (entering profile read_only))) z mid new second third r
    → Moves step from to (selecting profile folders from read_only name) z old new first third r
selects step from between to profile folders read_only name given z old mid new first second third r e p q =
    rw (← e)
    (moves_then step from between to (closing from (wanting (on_folder given folders (entering profile read_only)))) (wanting (on_folder given folders (entering profile read_only))) z old mid new first second third r
    (p (wanting (on_folder given folders (entering profile read_only)))) q)

-- ---- mailboxes that were counted, and what was written

pub writes_then : {S V : Type 0} (step : S → Call → Answer → S → Type 0) (bytes : List ℕ) (x : Exchange) (z : V → Exchange) (old new : S) (before between after : Response) (r : Result V MailFault)
    → between ≡ adding bytes before → Does step x z old new between after r → Does step (ex.Write bytes x) z old new before after r
writes_then step bytes x z old new before between after r e p =
    does_then step (ex.Write bytes x) x z old old new before between after r (λ tag now. reaches_write step tag now bytes x old before between (added bytes before between e)) p

pub counts_then : {S V : Type 0} (step : S → Call → Answer → S → Type 0) (number mailbox : ℕ) (next : Status → Exchange) (status : Status) (z : V → Exchange) (old mid new : S) (before after : Response) (r : Result V MailFault)
    → number ≡ mailbox → step old (ex.Count number) (Counted status) mid → Does step (next status) z mid new before after r
    → Does step (ex.Count mailbox next) z old new before after r
counts_then step number mailbox next status z old mid new before after r e h p =
    rw (← e) (does_then step (ex.Count number next) (next status) z old mid new before before after r
    (λ tag now. reaches_count step tag now number next status old mid before h) p)

pub refuses_count : {S : Type 0} (step : S → Call → Answer → S → Type 0) (tag : List ℕ) (now : Standing) (number mailbox : ℕ) (next : Status → Exchange) (fault : MailFault) (old new : S) (text : Response)
    → number ≡ mailbox → step old (ex.Count number) (Refused fault) new → Stops step tag now now (ex.Count mailbox next) fault old new text text
refuses_count step tag now number mailbox next fault old new text e h = rw (← e) (stops_count step tag now number next fault old new text h)

-- a folder that was found
pub does_found : {S V : Type 0} (step : S → Call → Answer → S → Type 0) (name : List ℕ) (folders : List Folder) (folder : Folder) (next : Folder → Exchange) (z : V → Exchange) (old new : S) (before after : Response) (r : Result V MailFault)
    → Some folder ≡ folder_of name folders → Does step (next folder) z old new before after r → Does step (on_folder name folders next) z old new before after r
does_found step name folders folder next z old new before after r h p = rw (← h) p

-- ---- names that are subscribed to

pub subscribes : {S : Type 0} (step : S → Call → Answer → S → Type 0) (folders : List Folder) (name : List ℕ) (command : Command) (verb : Verb) (s : S) (text : Response) (r : Result ResponseText MailFault)
    → verb_of command ≡ verb → IfOk r (λ said. (c : Command) → verb_of c ≡ verb → last said ≡ subscribing folders name c) → IfErr r (λ f. f ≡ NoMemory)
    → Does step (wanting (subscribing folders name command)) last s s text text r
subscribes step folders name command verb s text (Ok said) v ok err = λ tag now.
    reaches_wanted step tag now (subscribing folders name command) (last said) s text
    (rw (ok command v) (reaches_here step tag now (subscribing folders name command) s text))
subscribes step folders name command verb s text (Err fault) v ok err = λ tag now. starves_write step tag now [] (subscribing folders name command) fault s text text err refl
