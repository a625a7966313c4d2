-- What a session knows of the messages that its client appends: it changes where an exchange waits, and by what it waits for.
use Rattle.std.proofs.Common.{◌≡◌, ◌⊎◌, inl, inr, ℕ, suc, ◌+◌, Bool, true, false, List, ◌∷◌, length, refl, subst, Option, Some, None, take, ap, sym, []}
use Rattle.std.specs.Prelude.{IfSome, nat_lt}
use Rattle.change_ring.specs.declared.change.Flags.{Flags}
use Rattle.delivery_token.specs.declared.Verdict.{Verdict}
use Rattle.delivery_token.specs.Text.{Text}
use Rattle.delivery_token.specs.declared.Verdict.TheVariants as verdicts
use Rattle.mailbox.specs.declared.clients.MailFault.TheVariants.{NoMemory}
use Rattle.mailbox.specs.declared.clients.Opening.{Opening}
use Rattle.mailbox.specs.declared.clients.Row.{Row}
use Rattle.mailbox.specs.declared.mailbox.Status.{Status}
use Rattle.imap_grammar.specs.Sets.{named_in}
use Rattle.imap_grammar.specs.declared.command.Append.{Append}
use Rattle.imap_grammar.specs.declared.command.Command.{Command}
use Rattle.imap_grammar.specs.declared.command.Command.TheVariants as commands
use Rattle.imap_session.specs.declared.standing.After.{After}
use Rattle.imap_session.specs.declared.standing.Selected.{Selected}
use Rattle.imap_session.specs.Exchange as ex
use Rattle.imap_session.specs.Exchange.{Answer, PendingLiteral, Dropped, Refused, Exchange, Folder, ForDone, ForLiteral, ForNothing, ForVerdict, Mailing, Standing, Turn, Unasked, Waiting, bye, closed, played, refusal_after, text_before, waiting, refused, Argument, Message, Response, Purpose, nameless, Origin, Client, Copied, Batch}
use Rattle.imap_session.specs.Commands.{appending, coming, completed, most_unasked, number_named, on_command, on_idle_line, on_rest, on_verdict, says, logged_in, logs_in_as, on_line, awaiting_argument, comes_unasked, flags_for, date_for, mailbox_for, awaiting_response, given_up, most_line, on_stored, told_copied, with_copy, copies_of, refused_text}
use Rattle.imap_session.specs.declared.texts.ResponseText.TheVariants as texts
use Rattle.imap_session.specs.Texts.{response_text}
use Rattle.laws_client.proofs.Barred.{line_case}
use Rattle.imap_session.specs.declared.texts.ResponseText.{ResponseText}
use Rattle.imap_grammar.specs.declared.command.Literal.{Literal}
use Rattle.imap_grammar.specs.Literals.{announced}
use Rattle.imap_grammar.specs.declared.command.CopyMessages.{CopyMessages}
use Rattle.exactly_once.proofs.Copying.{IsCopied, copies_so, TakesBack, back_so, stored_so}
use Rattle.exactly_once.proofs.EachExchange.{Plays, closed_so, exchange_if}
use Rattle.laws_client.proofs.EachCommand.{Steps, Tells, append_so, command_so, copied_so, either_so, idle_line_so, rest_so, select_so, shows_so}
use Rattle.exactly_once.specs.Found.{AreSomeOf}

-- ---- an exchange

-- it waits only so
abbrev pub WaitsAs : (Waiting → Type 0) → Exchange → Type 0
WaitsAs A (ex.Done words how) = Unit {0}
WaitsAs A (ex.Wait bytes waits) = A waits
WaitsAs A (ex.Write bytes x) = WaitsAs A x
WaitsAs A (ex.Put bytes x) = WaitsAs A x
WaitsAs A (ex.Enter selected next) = (opening : Opening) → WaitsAs A (next opening)
WaitsAs A (ex.Look by_uid set next) = (view : List ℕ) → WaitsAs A (next view)
WaitsAs A (ex.Read uid mark next) = (row : Option Row) → WaitsAs A (next row)
WaitsAs A (ex.Count mailbox next) = (status : Status) → WaitsAs A (next status)
WaitsAs A (ex.Alter uid op next) = (flags : Option Flags) → WaitsAs A (next flags)
WaitsAs A (ex.Expunge uids x) = WaitsAs A x
WaitsAs A (ex.Feed limit x) = WaitsAs A x
WaitsAs A (ex.Leave remove x) = WaitsAs A x
WaitsAs A (ex.Discard mailbox uids x) = WaitsAs A x

-- who waits for a literal that wasn't asked for may drop its bytes
abbrev pub Drops : (Waiting → Type 0) → Type 0
Drops A = (purpose : Purpose) (size : ℕ) → A (ForLiteral Unasked purpose size) → A (ForLiteral Dropped (nameless purpose) size)

-- what is known of messages where it waits so
abbrev pub waiting_mail : List ℕ → Waiting → Mailing → Mailing
waiting_mail tag ForDone m = m
waiting_mail tag (ForLiteral coming purpose size) m = record m { begun = Some (record { tag = tag; purpose = purpose; size = size; due = size; text = text_before coming }) }
waiting_mail tag (ForVerdict origin mailbox flags text) m = record m { number = m.number + 1; sent = Some (record { tag = tag; append = record { message = m.number; mailbox = mailbox; text = text; flags = flags }; origin = origin }) }
waiting_mail tag ForNothing m = m

waiting_is : (tag : List ℕ) (w : Waiting) (now : Standing) → (waiting tag w now).mailing ≡ waiting_mail tag w now.mailing
waiting_is tag ForDone now = refl
waiting_is tag _ now = refl

-- it is as before, or it waits so
abbrev pub IsMail : (Waiting → Type 0) → (tag : List ℕ) → Mailing → Mailing → Type 0
IsMail A tag m next = (next ≡ m) ⊎ ((w : Waiting) × A w × (next ≡ waiting_mail tag w m))

abbrev pub TurnMail : (Waiting → Type 0) → (tag : List ℕ) → Mailing → Option Turn → Type 0
TurnMail A tag m turn = IfSome turn (λ s. IsMail A tag m s.standing.mailing)

closed_mail : (A : Waiting → Type 0) (tag : List ℕ) (now : Standing) (how : After) → IsMail A tag now.mailing (closed now how).standing.mailing
closed_mail A tag now how = closed_so (λ s. IsMail A tag now.mailing s.standing.mailing) now how (inl refl) (inl refl)

mailing : (A : Waiting → Type 0) → Drops A → (tag : List ℕ) → Plays tag (λ now x turn. WaitsAs A x → IsMail A tag now.mailing turn.standing.mailing)
mailing A drops tag = record {
  done = λ now words how p. closed_mail A tag now how;
  waits = λ now bytes w p. inr (w, p, waiting_is tag w now);
  drops = λ now bytes purpose size p. inr (ForLiteral Dropped (nameless purpose) size, drops purpose size p, refl);
  parts = λ now bytes purpose size p. inl refl;
  starves = λ now x p. closed_mail A tag now (refusal_after NoMemory);
  fails = λ now x call fault p. closed_mail A tag now (refusal_after fault);
  writes = λ now bytes x s so. so;
  puts = λ now bytes x s so. so;
  enters = λ now selected next a s so p. so (p a);
  looks = λ now by_uid set next a s so p. so (p a);
  reads = λ now uid mark next a s so p. so (p a);
  counts = λ now mailbox next a s so p. so (p a);
  alters = λ now uid op next a s so p. so (p a);
  expunges = λ now uids x met changes gone s so. so;
  feeds = λ now limit x met changes s so. so;
  leaves = λ now remove x gone s so. so;
  discards = λ now mailbox uids x s so. so;
}

pub played_mail : (A : Waiting → Type 0) → Drops A → (tag : List ℕ) (now : Standing) (x : Exchange) (answers : List Answer) → WaitsAs A x → TurnMail A tag now.mailing (played tag now x answers)
played_mail A drops tag now x answers p = exchange_if tag (WaitsAs A) (λ now turn. IsMail A tag now.mailing turn.standing.mailing) (mailing A drops tag) now x answers p

-- ---- what an exchange is made of

pub waits_told : (A : Waiting → Type 0) → Tells (WaitsAs A)
waits_told A = record { told = λ text. tt; wanted = λ x p. p }

-- A command waits only so, if IDLE does, and it is so of what it comes to where it appends or copies messages.
pub wait_steps : (A : Waiting → Type 0) (tag : List ℕ) (now : Standing) (command : Command) → (command ≡ commands.Idle → A ForDone)
    → ((append : Append) → command ≡ commands.Append append → WaitsAs A (appending now.mailing.most now.folders append))
    → ((copy : CopyMessages) → command ≡ commands.Copy copy → (batch : Batch) (mailbox : ℕ) (row : Row) → IsCopied now copy batch mailbox row → A (ForVerdict (Copied batch) mailbox row.flags row.text))
    → Steps tag now command (λ view. WaitsAs A)
wait_steps A tag now command idles appends copies = record {
  told = λ view text may. tt;
  wanted = λ view x p. p;
  shown = λ view. tt;
  removed = λ view uids. tt;
  noticed = λ view text x p. p;
  listed = λ view listing reference pattern x p. p;
  counted = λ view name items folder x is p status. p;
  looked = λ view by_uid set next p. p;
  reads = λ view uid mark next p. p;
  fetches = λ fetch is view mark uid there gone known p q. elim [ None ↦ q | Some row ↦ p ];
  alters = λ view uid op there gone p q. elim [ None ↦ q | Some flags ↦ p ];
  stores = λ by_uid view uid op there gone known p q. elim [ None ↦ q | Some flags ↦ p ];
  finds = λ search view found x p. p;
  enters = λ view read_only name off quiet. select_so (WaitsAs A) (waits_told A) now read_only name (λ x p. p) (λ x p. p) (λ folder is p opening. p);
  leaves = λ view remove off quiet. tt;
  idles = λ view is. idles is;
  parts = λ view is. tt;
  appends = λ view append is. appends append is;
  submits = λ view copy is batch mailbox row copied. copies copy is batch mailbox row copied;
}

-- ---- commands

-- an APPEND waits for the literal that it announced, for the mailbox that it named
abbrev pub ForItsLiteral : Option ℕ → Append → Waiting → Type 0
ForItsLiteral found append (ForLiteral Dropped purpose size) = Unit {0}
ForItsLiteral found append (ForLiteral coming purpose size) = (purpose ≡ Message found append.flags append.date) × (size ≡ append.literal.size)
ForItsLiteral found append ForNothing = Unit {0}
ForItsLiteral found append w = ⊥

literal_drops : (found : Option ℕ) (append : Append) → Drops (ForItsLiteral found append)
literal_drops found append purpose size p = tt

pub append_waits : (most : Option ℕ) (folders : List Folder) (a : Append) → WaitsAs (ForItsLiteral (number_named a.name folders) a) (appending most folders a)
append_waits most folders a =
    let found : Option ℕ = number_named a.name folders in
    append_so (WaitsAs (ForItsLiteral found a)) (waits_told (ForItsLiteral found a)) most folders a (λ mailbox named. (ap (λ (o : Option ℕ). Message o a.flags a.date) (sym named), refl)) (refl, refl) tt

-- an IDLE waits for DONE, a session that ends for nothing more, and nothing else waits
abbrev pub ForItsDone : Waiting → Type 0
ForItsDone ForDone = Unit {0}
ForItsDone ForNothing = Unit {0}
ForItsDone w = ⊥

-- a command that submits no message: no APPEND, COPY or MOVE
abbrev pub SubmitsNone : Command → Type 0
SubmitsNone (commands.Append append) = ⊥
SubmitsNone (commands.Copy copy) = ⊥
SubmitsNone command = Unit {0}

command_waits : (tag : List ℕ) (now : Standing) (command : Command) → SubmitsNone command → WaitsAs ForItsDone (on_command tag now command)
command_waits tag now command other =
    command_so tag now command (λ view. WaitsAs ForItsDone)
    (wait_steps ForItsDone tag now command (λ is. tt) (λ append is. absurd (subst SubmitsNone is other)) (λ copy is batch mailbox row copied. absurd (subst SubmitsNone is other))) []

done_mail : (tag : List ℕ) (m next : Mailing) → IsMail ForItsDone tag m next → next ≡ m
done_mail tag m next (inl e) = e
done_mail tag m next (inr (ForDone, p, e)) = e
done_mail tag m next (inr (ForNothing, p, e)) = e
done_mail tag m next (inr (ForLiteral coming purpose size, p, e)) = absurd p
done_mail tag m next (inr (ForVerdict origin mailbox flags text, p, e)) = absurd p

done_drops : Drops ForItsDone
done_drops purpose size p = absurd p

some_mail : (A : Waiting → Type 0) (tag : List ℕ) (m : Mailing) (o : Option Turn) (turn : Turn) → TurnMail A tag m o → o ≡ Some turn → IsMail A tag m turn.standing.mailing
some_mail A tag m o turn p e = subst (TurnMail A tag m) e p

-- one that waits for nothing but DONE
so_mail : (tag : List ℕ) (now : Standing) (x : Exchange) (answers : List Answer) (turn : Turn) → WaitsAs ForItsDone x → played tag now x answers ≡ Some turn → turn.standing.mailing ≡ now.mailing
so_mail tag now x answers turn w e = done_mail tag now.mailing turn.standing.mailing (some_mail ForItsDone tag now.mailing _ turn (played_mail ForItsDone done_drops tag now x answers w) e)

-- it was refused
pub refused_mail : (tag words : List ℕ) (now : Standing) (answers : List Answer) (turn : Turn) → played tag now (says words) answers ≡ Some turn → turn.standing.mailing ≡ now.mailing
refused_mail tag words now answers turn e = so_mail tag now (says words) answers turn tt e

pub other_mail : (tag : List ℕ) (now : Standing) (command : Command) (answers : List Answer) (turn : Turn) → SubmitsNone command → on_line (logs_in_as now.login command) now tag command answers ≡ Some turn → turn.standing.mailing ≡ now.mailing
other_mail tag now command answers turn other e =
    line_case (turn.standing.mailing ≡ now.mailing) now tag command answers turn (λ logs d. so_mail tag (logged_in now) (completed command) answers turn tt d)
    (λ text is d. refused_mail tag (response_text text) now answers turn d) (λ d. so_mail tag now (on_command tag now command) answers turn (command_waits tag now command other) d) e

pub append_mail : (tag : List ℕ) (now : Standing) (append : Append) (answers : List Answer) (turn : Turn) → on_line (logs_in_as now.login (commands.Append append)) now tag (commands.Append append) answers ≡ Some turn
    → IsMail (ForItsLiteral (number_named append.name now.folders) append) tag now.mailing turn.standing.mailing
append_mail tag now append answers turn e =
    let A : Waiting → Type 0 = ForItsLiteral (number_named append.name now.folders) append in
    line_case (IsMail A tag now.mailing turn.standing.mailing) now tag (commands.Append append) answers turn (λ logs d. inl (so_mail tag (logged_in now) (completed (commands.Append append)) answers turn tt d))
    (λ text is d. inl (refused_mail tag (response_text text) now answers turn d))
    (λ d. some_mail A tag now.mailing _ turn (played_mail A (literal_drops (number_named append.name now.folders) append) tag now (on_command tag now (commands.Append append)) answers (append_waits now.mailing.most now.folders append)) d) e

-- ---- COPY and MOVE

-- the first of a batch, by this command, in its form, of the messages that it names in a view
pub record IsCopyBy (copy : CopyMessages) (batch : Batch) : Type 0 where
  pub view : List ℕ
  pub uids : List ℕ
  pub set : named_in copy.by_uid copy.set view ≡ Some uids
  pub some : AreSomeOf batch.uids uids
  pub all : copy.by_uid ≡ false → batch.uids ≡ uids
  pub by_uid : copy.by_uid ≡ batch.by_uid
  pub moves : copy.moves ≡ batch.moves
  pub first : batch.copies ≡ []
  pub others : suc (length batch.left) ≡ length batch.uids

abbrev pub ComesOf : CopyMessages → Origin → Type 0
ComesOf copy Client = ⊥
ComesOf copy (Copied batch) = IsCopyBy copy batch

-- it waits for the verdict on a copy, in the mailbox that it named
abbrev pub ForItsCopy : Option ℕ → CopyMessages → Waiting → Type 0
ForItsCopy found copy (ForVerdict origin mailbox flags text) = (found ≡ Some mailbox) × ComesOf copy origin
ForItsCopy found copy w = ⊥

copy_drops : (found : Option ℕ) (copy : CopyMessages) → Drops (ForItsCopy found copy)
copy_drops found copy purpose size p = absurd p

copy_waits : (tag : List ℕ) (now : Standing) (copy : CopyMessages)
    → WaitsAs (ForItsCopy (number_named copy.name now.folders) copy) (on_command tag now (commands.Copy copy))
copy_waits tag now copy =
    copies_so (WaitsAs (ForItsCopy (number_named copy.name now.folders) copy))
    (record { told = λ text. tt; wanted = λ x p. p; looked = λ by_uid set next p. p; found = λ uid mark next p. p }) tag now copy
    (λ batch mailbox row copied. (
      copied.named,
      record {
        view = copied.view;
        uids = copied.uids;
        set = copied.set;
        some = copied.some;
        all = copied.all;
        by_uid = copied.by_uid;
        moves = copied.moves;
        first = copied.first;
        others = copied.others;
      },
    ))

pub copy_mail : (tag : List ℕ) (now : Standing) (copy : CopyMessages) (answers : List Answer) (turn : Turn)
    → on_line (logs_in_as now.login (commands.Copy copy)) now tag (commands.Copy copy) answers ≡ Some turn
    → IsMail (ForItsCopy (number_named copy.name now.folders) copy) tag now.mailing turn.standing.mailing
copy_mail tag now copy answers turn e =
    let A : Waiting → Type 0 = ForItsCopy (number_named copy.name now.folders) copy in
    line_case (IsMail A tag now.mailing turn.standing.mailing) now tag (commands.Copy copy) answers turn
    (λ logs d. inl (so_mail tag (logged_in now) (completed (commands.Copy copy)) answers turn tt d))
    (λ text is d. inl (refused_mail tag (response_text text) now answers turn d))
    (λ d. some_mail A tag now.mailing _ turn (played_mail A (copy_drops (number_named copy.name now.folders) copy) tag now (on_command tag now (commands.Copy copy)) answers (copy_waits tag now copy)) d) e

-- ---- lines that aren't whole yet, and those that are given up

-- it waits for the argument that it announces
abbrev pub ForItsArgument : (line : List ℕ) → ℕ × Literal → Waiting → Type 0
ForItsArgument line found (ForLiteral Dropped purpose size) = Unit {0}
ForItsArgument line found (ForLiteral coming purpose size) = (purpose ≡ Argument (take found.0 line)) × (size ≡ found.1.size)
ForItsArgument line found ForNothing = Unit {0}
ForItsArgument line found w = ⊥

argument_drops : (line : List ℕ) (found : ℕ × Literal) → Drops (ForItsArgument line found)
argument_drops line found purpose size p = tt

pub argument_mail : (tag : List ℕ) (now : Standing) (line : List ℕ) (found : ℕ × Literal) (answers : List Answer) (turn : Turn) → played tag now (awaiting_argument (take found.0 line) found.1) answers ≡ Some turn
    → IsMail (ForItsArgument line found) tag now.mailing turn.standing.mailing
argument_mail tag now line found answers turn e =
    let A : Waiting → Type 0 = ForItsArgument line found in
    let before : List ℕ = take found.0 line in
    some_mail A tag now.mailing _ turn (played_mail A (argument_drops line found) tag now (awaiting_argument before found.1) answers
    (either_so (WaitsAs A) found.1.waits _ _ (either_so (WaitsAs A) (nat_lt most_line (length before + found.1.size)) (says (response_text texts.LineTooLong)) _ tt (refl, refl))
    (either_so (WaitsAs A) (nat_lt most_unasked found.1.size) (ex.Wait (bye (response_text texts.LiteralTooBig)) ForNothing) (ex.Wait [] (ForLiteral Unasked (Argument before) found.1.size)) tt (refl, refl)))) e

-- or for the response that AUTHENTICATE asks for
abbrev pub ForItsResponse : (line : List ℕ) → Waiting → Type 0
ForItsResponse line (ForLiteral Dropped purpose size) = Unit {0}
ForItsResponse line (ForLiteral coming purpose size) = (purpose ≡ Response line) × (size ≡ 0)
ForItsResponse line w = ⊥

response_drops : (line : List ℕ) → Drops (ForItsResponse line)
response_drops line purpose size p = tt

pub response_mail : (tag : List ℕ) (now : Standing) (line : List ℕ) (answers : List Answer) (turn : Turn) → played tag now (awaiting_response line) answers ≡ Some turn → IsMail (ForItsResponse line) tag now.mailing turn.standing.mailing
response_mail tag now line answers turn e =
    some_mail (ForItsResponse line) tag now.mailing _ turn (played_mail (ForItsResponse line) (response_drops line) tag now (awaiting_response line) answers (refl, refl)) e

pub given_mail : (tag : List ℕ) (now : Standing) (rest : List ℕ) (told parting : ResponseText) (answers : List Answer) (turn : Turn) → played tag now (given_up rest told parting) answers ≡ Some turn → turn.standing.mailing ≡ now.mailing
given_mail tag now rest told parting answers turn e =
    so_mail tag now (given_up rest told parting) answers turn (either_so (WaitsAs ForItsDone) (comes_unasked (announced rest)) (ex.Wait (bye (response_text parting)) ForNothing) (says (response_text told)) tt tt) e

-- ---- other lines, and verdicts

idling_waits : (selected : Option Selected) (line : List ℕ) → WaitsAs ForItsDone (on_idle_line selected line)
idling_waits selected line = idle_line_so (WaitsAs ForItsDone) selected line tt tt tt

pub idling_mail : (tag : List ℕ) (now : Standing) (selected : Option Selected) (line : List ℕ) (answers : List Answer) (turn : Turn) → played tag now (on_idle_line selected line) answers ≡ Some turn → turn.standing.mailing ≡ now.mailing
idling_mail tag now selected line answers turn e = so_mail tag now (on_idle_line selected line) answers turn (idling_waits selected line) e

-- a session waits for the verdict on the next message of a batch, one more copy of which was stored
pub record IsNext (origin : Origin) (verdict : Verdict) (next : Origin) (flags : Flags) (text : Text) : Type 0 where
  pub batch : Batch
  pub uid : ℕ
  pub row : Row
  pub left : List Row
  pub was : origin ≡ Copied batch
  pub stored : verdict ≡ verdicts.Stored uid
  pub there : batch.left ≡ row ∷ left
  pub is : next ≡ Copied (record (with_copy uid batch) { left = left })
  pub has_flags : flags ≡ row.flags
  pub has_text : text ≡ row.text

abbrev pub ForTheNext : Origin → (mailbox : ℕ) → Verdict → Waiting → Type 0
ForTheNext origin mailbox verdict (ForVerdict next to flags text) = IsNext origin verdict next flags text × (to ≡ mailbox)
ForTheNext origin mailbox verdict w = ⊥

next_drops : (origin : Origin) (mailbox : ℕ) (verdict : Verdict) → Drops (ForTheNext origin mailbox verdict)
next_drops origin mailbox verdict purpose size p = absurd p

copied_waits : (A : Waiting → Type 0) (selected : Option Selected) (batch : Batch) (uidvalidity : ℕ) → WaitsAs A (told_copied selected batch uidvalidity)
copied_waits A selected batch uidvalidity = copied_so (WaitsAs A) selected batch uidvalidity tt tt (λ x p. p) tt (λ s. tt)

takes_back : (A : Waiting → Type 0) → TakesBack (WaitsAs A)
takes_back A = record { told = λ text. tt; removed = λ mailbox uids x p. p }

stored_waits : (mailing : Mailing) (selected : Option Selected) (origin : Origin) (mailbox uid : ℕ)
    → WaitsAs (ForTheNext origin mailbox (verdicts.Stored uid)) (on_stored mailing selected origin mailbox uid)
stored_waits mailing selected Client mailbox uid = λ status. shows_so (WaitsAs (ForTheNext Client mailbox (verdicts.Stored uid))) selected _ tt tt
stored_waits mailing selected (Copied batch) mailbox uid =
    let A : Waiting → Type 0 = ForTheNext (Copied batch) mailbox (verdicts.Stored uid) in
    stored_so (WaitsAs A) (takes_back A) mailing selected batch mailbox uid
    (λ row left is. (record { batch = batch; uid = uid; row = row; left = left; was = refl; stored = refl; there = is; is = refl; has_flags = refl; has_text = refl }, refl))
    (λ none status. copied_waits A selected (with_copy uid batch) status.uidvalidity)

verdict_waits : (mailing : Mailing) (selected : Option Selected) (origin : Origin) (mailbox : ℕ) (verdict : Verdict)
    → WaitsAs (ForTheNext origin mailbox verdict) (on_verdict mailing selected origin mailbox verdict)
verdict_waits mailing selected origin mailbox (verdicts.Stored uid) = stored_waits mailing selected origin mailbox uid
verdict_waits mailing selected origin mailbox (verdicts.Refused why) =
    let A : Waiting → Type 0 = ForTheNext origin mailbox (verdicts.Refused why) in back_so (WaitsAs A) (takes_back A) mailbox (copies_of origin) (refused_text why)

pub verdict_mail : (tag : List ℕ) (now : Standing) (mailing : Mailing) (selected : Option Selected) (origin : Origin) (mailbox : ℕ) (verdict : Verdict) (answers : List Answer) (turn : Turn)
    → played tag now (on_verdict mailing selected origin mailbox verdict) answers ≡ Some turn → IsMail (ForTheNext origin mailbox verdict) tag now.mailing turn.standing.mailing
verdict_mail tag now mailing selected origin mailbox verdict answers turn e =
    let A : Waiting → Type 0 = ForTheNext origin mailbox verdict in
    some_mail A tag now.mailing _ turn (played_mail A (next_drops origin mailbox verdict) tag now (on_verdict mailing selected origin mailbox verdict) answers (verdict_waits mailing selected origin mailbox verdict)) e

-- behind a literal it waits for the verdict on that message
abbrev pub ForItsVerdict : PendingLiteral → Bool → Waiting → Type 0
ForItsVerdict a empty (ForVerdict origin mailbox flags text) = (mailbox_for a.purpose ≡ Some mailbox) × (flags ≡ flags_for a.purpose) × (a.text ≡ Some text.bytes) × (empty ≡ true) × (origin ≡ Client) × (text.date ≡ date_for a.purpose)
ForItsVerdict a empty w = ⊥

verdict_drops : (a : PendingLiteral) (empty : Bool) → Drops (ForItsVerdict a empty)
verdict_drops a empty purpose size p = absurd p

rest_waits : (mailing : Mailing) (a : PendingLiteral) (empty : Bool) → WaitsAs (ForItsVerdict a empty) (on_rest mailing a empty)
rest_waits mailing a empty =
    rest_so (WaitsAs (ForItsVerdict a empty)) (waits_told (ForItsVerdict a empty)) mailing a empty (λ text mailbox is named whole fits. (named, refl, is, whole, refl, refl))

pub rest_mail : (now : Standing) (mailing : Mailing) (a : PendingLiteral) (empty : Bool) (answers : List Answer) (turn : Turn) → played a.tag now (on_rest mailing a empty) answers ≡ Some turn → IsMail (ForItsVerdict a empty) a.tag now.mailing turn.standing.mailing
rest_mail now mailing a empty answers turn e =
    some_mail (ForItsVerdict a empty) a.tag now.mailing _ turn (played_mail (ForItsVerdict a empty) (verdict_drops a empty) a.tag now (on_rest mailing a empty) answers (rest_waits mailing a empty)) e
