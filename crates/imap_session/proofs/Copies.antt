-- What is said of a message that was stored, whatever it comes from; and what a COPY or MOVE comes to.
use Rattle.std.proofs.Common.{◌≡◌, arith, ◌++◌, ◌+◌, ◌<◌, ◌==◌, ℕ, List, [], ◌∷◌, true, false, Option, Some, None, Result, Ok, Err, refl, sym, ap, ◌∙◌, subst, append_assoc, append-nil, add-one, drop, drop-cons, get_or, length, map}
use Rattle.std.proofs.lemmas.Bool.Decides.{nat_tests}
use Rattle.std.specs.Prelude.{nat_le, option_to_list, reverse, if◌then◌else◌}
use Rattle.std.proofs.lemmas.List.{length-reverse, reverse-append}
use Rattle.mailbox.specs.declared.clients.Row.{Row}
use Rattle.change_ring.specs.declared.change.Flags.{Flags}
use Rattle.mailbox.specs.declared.clients.MailFault.{MailFault}
use Rattle.mailbox.specs.declared.clients.MailFault.TheVariants.{NoMemory}
use Rattle.imap_grammar.specs.declared.command.CopyMessages.{CopyMessages}
use Rattle.delivery_token.specs.declared.Verdict.{Verdict}
use Rattle.delivery_token.specs.declared.Verdict.TheVariants.{Stored, Refused}
use Rattle.delivery_token.specs.Text.{Text}
use Rattle.imap_session.specs.declared.copying.Found.{Found}
use Rattle.imap_session.specs.declared.copying.Found.TheVariants.{Said}
use Rattle.imap_session.specs.declared.standing.After.{After}
use Rattle.imap_session.specs.declared.standing.After.TheVariants.{Go}
use Rattle.imap_session.specs.declared.standing.Selected.{Selected}
use Rattle.imap_session.specs.declared.texts.ResponseText.{ResponseText}
use Rattle.imap_session.specs.declared.texts.ResponseText.TheVariants as texts
use Rattle.imap_session.specs.Exchange as ex
use Rattle.imap_session.specs.Exchange.{Batch, Origin, Client, Copied, Discarded, ForVerdict, Answer, Call, Exchange, Mailing, Standing, closed, played, waiting}
use Rattle.imap_session.specs.Commands.{copy_messages, copy_to, gathering, is_over, most_copied, nowhere, number_named, on_found, on_verdict, over, says, last_number, submitting, submitting_first, taking_back, told_copied, wanting, with_copy, with_message, with_validity, wrong_state}
use Rattle.imap_session.specs.Texts.{response_text}
use Rattle.imap_session.specs.Response.{Response}
use Rattle.imap_session.specs.inner.Appends.{Leads}
use Rattle.imap_session.specs.inner.Copies.{batch_with, found_next, picked}
use Rattle.imap_session.specs.inner.Lines.{Had}
use Rattle.imap_session.specs.inner.Store.{Does, Plays, Reaches, after_result, last, last_words}
use Rattle.imap_session.proofs.Ending.{moves_still, plays_moved}
use Rattle.imap_session.proofs.Runs.{Met-append, nothing_added, reaches_discard, reaches_here, reaches_then, reaches_write, stops_write}
use Rattle.imap_session.proofs.Saying.{does_then, does_wanting}

-- messages were removed from a mailbox, and the rest was done
pub does_discarded : {S V : Type 0} (step : S → Call → Answer → S → Type 0) (mailbox : ℕ) (uids : List ℕ) (x : Exchange) (z : V → Exchange) (old mid new : S) (before after : Response) (r : Result V MailFault)
    → step old (ex.Discard mailbox uids) Discarded mid → Does step x z mid new before after r → Does step (ex.Discard mailbox uids x) z old new before after r
does_discarded step mailbox uids x z old mid new before after r h p =
    does_then step (ex.Discard mailbox uids x) x z old mid new before before after r (λ tag now. reaches_discard step tag now mailbox uids x old mid before h) p

-- an exchange was done but for its last line, and that was said, or what is said of a fault
pub plays_done : {S : Type 0} (step : S → Call → Answer → S → Type 0) (now : Standing) (x : Exchange) (old new : S) (before mid : Response) (final : List ℕ) (r : Result ResponseText MailFault) (how : After)
    → Does step x last old new before mid r → final ≡ mid.text ++ last_words mid.tag r → how ≡ after_result Go r → Plays step before.tag now now x old new before.text final how
plays_done step now x old new before mid final r how d f h = rw h (plays_moved step now now.selected Go x old new before mid final r (moves_still step now.selected x last old new before mid r d) f)

-- ---- what a COPY or MOVE comes to

refused_at : (now : Standing) (copy : CopyMessages) (selected : Option Selected) (y : Exchange) → selected ≡ now.selected → on_found (copy_messages now copy) wrong_state selected ≡ y
    → on_found (copy_messages now copy) wrong_state now.selected ≡ y
refused_at now copy selected y is e = ap (on_found (copy_messages now copy) wrong_state) (sym is) ∙ e

pub copy_refused : {S : Type 0} (step : S → Call → Answer → S → Type 0) (now : Standing) (copy : CopyMessages) (selected : Option Selected) (text : ResponseText) (s : S) (response : Response)
    → selected ≡ now.selected → on_found (copy_messages now copy) wrong_state selected ≡ says (response_text text)
    → Does step (on_found (copy_messages now copy) wrong_state now.selected) (found_next now.mailing copy) s s response response (Ok (Said text))
copy_refused step now copy selected text s response is e = λ tag at. rw (refused_at now copy selected _ is e) (reaches_here step tag at (says (response_text text)) s response)

abbrev to_named : Standing → CopyMessages → Option ℕ → Exchange
to_named now copy number = on_found (copy_to now.mailing copy) nowhere number

-- memory was refused to the name
pub copy_starved : {S : Type 0} (step : S → Call → Answer → S → Type 0) (now : Standing) (copy : CopyMessages) (selected : Option Selected) (s : S) (response : Response)
    → selected ≡ now.selected → on_found (copy_messages now copy) wrong_state selected ≡ wanting (to_named now copy (number_named copy.name now.folders))
    → Does step (on_found (copy_messages now copy) wrong_state now.selected) (found_next now.mailing copy) s s response response (Err NoMemory)
copy_starved step now copy selected s response is e = λ tag at. rw (refused_at now copy selected _ is e) (stops_write step tag at [] _ s response)

-- no mailbox has the name
pub copy_missing : {S : Type 0} (step : S → Call → Answer → S → Type 0) (now : Standing) (copy : CopyMessages) (selected : Option Selected) (s : S) (response : Response)
    → selected ≡ now.selected → on_found (copy_messages now copy) wrong_state selected ≡ wanting (to_named now copy (number_named copy.name now.folders))
    → number_named copy.name now.folders ≡ None
    → Does step (on_found (copy_messages now copy) wrong_state now.selected) (found_next now.mailing copy) s s response response (Ok (Said texts.TryCreate))
copy_missing step now copy selected s response is e none = λ tag at.
    rw (refused_at now copy selected _ is e ∙ ap (λ o. wanting (to_named now copy o)) none) (reaches_write step tag at [] nowhere s response response (nothing_added response))

-- one has it, and what it comes to there
pub copy_found : {S : Type 0} (step : S → Call → Answer → S → Type 0) (now : Standing) (copy : CopyMessages) (selected : Option Selected) (mailbox : ℕ) (old new : S) (response : Response) (r : Result Found MailFault)
    → selected ≡ now.selected → on_found (copy_messages now copy) wrong_state selected ≡ wanting (to_named now copy (number_named copy.name now.folders))
    → number_named copy.name now.folders ≡ Some mailbox → Does step (copy_to now.mailing copy mailbox) (found_next now.mailing copy) old new response response r
    → Does step (on_found (copy_messages now copy) wrong_state now.selected) (found_next now.mailing copy) old new response response r
copy_found step now copy selected mailbox old new response r is e some d =
    rw (refused_at now copy selected _ is e ∙ ap (λ o. wanting (to_named now copy o)) some) (does_wanting step (copy_to now.mailing copy mailbox) (found_next now.mailing copy) old new response response r d)

-- ---- messages that are read one after another

abbrev pub taken_at : Mailing → CopyMessages → (mailbox : ℕ) → (named : List ℕ) → (i : ℕ) → (uids : List ℕ) → (left : List Row) → Row → Exchange
taken_at mailing copy mailbox named i uids left row = gathering mailing copy mailbox (drop (i + 1) named) (with_message (get_or named i 0) row (batch_with copy uids left))

abbrev pub passed_at : Mailing → CopyMessages → (mailbox : ℕ) → (named : List ℕ) → (i : ℕ) → (uids : List ℕ) → (left : List Row) → Exchange
passed_at mailing copy mailbox named i uids left = gathering mailing copy mailbox (drop (i + 1) named) (batch_with copy uids left)

abbrev pub read_at : Mailing → CopyMessages → (mailbox : ℕ) → (named : List ℕ) → (i : ℕ) → (uids : List ℕ) → (left : List Row) → Exchange
read_at mailing copy mailbox named i uids left =
    ex.Read (get_or named i 0) false (on_found (λ row. if is_over (most_copied mailing.most) (length row.text.bytes) then over (most_copied mailing.most) else taken_at mailing copy mailbox named i uids left row)
    (if copy.by_uid then passed_at mailing copy mailbox named i uids left else says (response_text texts.MessagesGone)))

-- what is left is to read the next message
gathering_next : (mailing : Mailing) (copy : CopyMessages) (mailbox : ℕ) (named : List ℕ) (i : ℕ) (uids : List ℕ) (left : List Row) → i < length named
    → gathering mailing copy mailbox (drop i named) (batch_with copy uids left) ≡ read_at mailing copy mailbox named i uids left
gathering_next mailing copy mailbox named i uids left h = rw (add-one, drop-cons named i 0) refl

-- it is read, for whoever knows what the reading of one says
pub read_next : {S : Type 0} (step : S → Call → Answer → S → Type 0) (tag : List ℕ) (now : Standing) (mailing : Mailing) (copy : CopyMessages) (mailbox : ℕ) (named : List ℕ) (i : ℕ) (uids : List ℕ) (left : List Row) (x : Exchange) (old mid : S) (text : Response)
    → i < length named → Reaches step tag now now x (gathering mailing copy mailbox (drop i named) (batch_with copy uids left)) old mid text text
    → Reaches step tag now now x (read_at mailing copy mailbox named i uids left) old mid text text
read_next step tag now mailing copy mailbox named i uids left x old mid text h p =
    let P : Exchange → Type 0 = λ y. Reaches step tag now now x y old mid text text in
    subst P (gathering_next mailing copy mailbox named i uids left h) p

-- one that is there is kept, and one that is passed over isn't
picked_kept : (mailing : Mailing) (copy : CopyMessages) (mailbox : ℕ) (named : List ℕ) (i : ℕ) (uids : List ℕ) (left : List Row) (row : Option Row)
    → picked (taken_at mailing copy mailbox named i uids left) (passed_at mailing copy mailbox named i uids left) (Ok row)
    ≡ gathering mailing copy mailbox (drop (i + 1) named) (batch_with copy (uids ++ map (λ _. get_or named i 0) (option_to_list row)) (left ++ option_to_list row))
picked_kept mailing copy mailbox named i uids left None =
    ap (λ u. gathering mailing copy mailbox (drop (i + 1) named) (batch_with copy u left)) (sym (append-nil uids))
    ∙ ap (λ l. gathering mailing copy mailbox (drop (i + 1) named) (batch_with copy (uids ++ []) l)) (sym (append-nil left))
picked_kept mailing copy mailbox named i uids left (Some row) = refl

-- it goes on by one message
pub gathers_more : {S : Type 0} (step : S → Call → Answer → S → Type 0) (tag : List ℕ) (now : Standing) (mailing : Mailing) (copy : CopyMessages) (mailbox : ℕ) (named : List ℕ) (i : ℕ) (uids : List ℕ) (left : List Row) (row : Option Row) (kept : List ℕ) (rows : List Row) (x : Exchange) (old mid new : S) (text : Response)
    → i < length named → kept ≡ uids ++ map (λ _. get_or named i 0) (option_to_list row) → rows ≡ left ++ option_to_list row
    → Reaches step tag now now x (gathering mailing copy mailbox (drop i named) (batch_with copy uids left)) old mid text text
    → Reaches step tag now now (read_at mailing copy mailbox named i uids left) (picked (taken_at mailing copy mailbox named i uids left) (passed_at mailing copy mailbox named i uids left) (Ok row)) mid new text text
    → Reaches step tag now now x (gathering mailing copy mailbox (drop (i + 1) named) (batch_with copy kept rows)) old new text text
gathers_more step tag now mailing copy mailbox named i uids left row kept rows x old mid new text lt e f p q =
    rw (e, f, ← picked_kept mailing copy mailbox named i uids left row)
    (reaches_then step tag now now now x _ _ old mid new text text text (read_next step tag now mailing copy mailbox named i uids left x old mid text lt p) q)

-- copies that were stored are removed again, where there are any
pub taken_back_some : (mailbox : ℕ) (copies : List ℕ) (x : Exchange) → (length copies == 0) ≡ false → taking_back mailbox copies x ≡ ex.Discard mailbox copies x
taken_back_some mailbox [] x h = cc
taken_back_some mailbox (uid ∷ uids) x h = refl

not_none : (uid : ℕ) (uids : List ℕ) → (length (uid ∷ uids) == 0) ≡ true → ⊥
not_none uid uids h = grind (arith, nat_tests)

pub taken_back_none : (mailbox : ℕ) (copies : List ℕ) (x : Exchange) → (length copies == 0) ≡ true → taking_back mailbox copies x ≡ x
taken_back_none mailbox [] x h = refl
taken_back_none mailbox (uid ∷ uids) x h = absurd (not_none uid uids h)

pub sent_next : (m : Mailing) (b : Batch) (mailbox : ℕ) (done : Exchange) (row : Row) (left : List Row) → b.left ≡ row ∷ left → nat_le last_number m.number ≡ false
    → submitting m b mailbox done ≡ ex.Wait [] (ForVerdict (Copied (record b { left = left })) mailbox row.flags row.text)
sent_next m b mailbox done row left is free = rw (is, free) refl

pub spent_next : (m : Mailing) (b : Batch) (mailbox : ℕ) (done : Exchange) (row : Row) (left : List Row) → b.left ≡ row ∷ left → nat_le last_number m.number ≡ true
    → submitting m b mailbox done ≡ taking_back mailbox b.copies (says (response_text texts.MailboxSpent))
spent_next m b mailbox done row left is spent = rw (is, spent) refl

-- the standing of a session that submitted one of these
pub sent_under : {s now : Standing} (tag : List ℕ) (a b : Batch) (mailbox : ℕ) (flags : Flags) (text : Text) → a ≡ b → s ≡ now
    → waiting tag (ForVerdict (Copied a) mailbox flags text) s ≡ waiting tag (ForVerdict (Copied b) mailbox flags text) now
sent_under {s} {now} tag a b mailbox flags text e f =
    ap (λ (x : Batch). waiting tag (ForVerdict (Copied x) mailbox flags text) s) e ∙ ap (λ (t : Standing). waiting tag (ForVerdict (Copied b) mailbox flags text) t) f

-- the next of messages that are kept with the next one last
pub last_first : (kept rest : List Row) (row : Option Row) → kept ≡ rest ++ option_to_list row → (one : Row) → row ≡ Some one → reverse kept ≡ one ∷ reverse rest
last_first kept rest row is one some = rw (is, some) (reverse-append rest (one ∷ []))

-- where there are some, there is a next one
pub some_left : (kept : List Row) → (length kept == 0) ≡ false → (one : Row) × (rest : List Row) × (reverse kept ≡ one ∷ rest)
some_left kept some = of (reverse kept) (length-reverse kept)
  where
    none_some : (kept : List Row) → 0 ≡ length kept → (length kept == 0) ≡ false → ⊥
    none_some [] e s = cc
    none_some (row ∷ rows) e s = absurd (omega (arith, e))

    of : (turned : List Row) → length turned ≡ length kept → (one : Row) × (rest : List Row) × (turned ≡ one ∷ rest)
    of [] e = absurd (none_some kept e some)
    of (one ∷ rest) e = (one, rest, refl)

-- what is done about a verdict goes by the number of the next message alone
first_same : (m n : Mailing) (batch : Batch) (mailbox : ℕ) (done : Exchange) (left : List Row) → m.number ≡ n.number → submitting_first m batch mailbox done left ≡ submitting_first n batch mailbox done left
first_same m n batch mailbox done [] e = refl
first_same m n batch mailbox done (row ∷ left) e = rw e refl

pub verdict_same : (m n : Mailing) (selected : Option Selected) (origin : Origin) (mailbox : ℕ) (verdict : Verdict) → m.number ≡ n.number → on_verdict m selected origin mailbox verdict ≡ on_verdict n selected origin mailbox verdict
verdict_same m n selected Client mailbox (Stored uid) e = refl
verdict_same m n selected (Copied batch) mailbox (Stored uid) e = first_same m n (with_copy uid batch) mailbox (with_validity mailbox (told_copied selected (with_copy uid batch))) batch.left e
verdict_same m n selected origin mailbox (Refused why) e = refl

-- ---- whole lines of it

-- an exchange was played over the store to its end
pub had_played : {S : Type 0} (step : S → Call → Answer → S → Type 0) (tag : List ℕ) (now mid next : Standing) (x : Exchange) (old new : S) (before after : List ℕ) (how : After)
    → Plays step tag now mid x old new before after how → next ≡ (closed mid how).standing → Had (played tag now x) step old new before after how next
had_played step tag now mid next x old new before after how p is =
    rw is (record { answers = p.answers; events = p.events; bytes = p.bytes; played = p.leads; met = p.met; wrote = p.wrote })

-- part of it was done over the store, and what was left led to this without a call
pub had_led : {S : Type 0} (step : S → Call → Answer → S → Type 0) (now next : Standing) (x y : Exchange) (old new : S) (response : Response) (after : List ℕ) (how : After)
    → Reaches step response.tag now now x y old new response response → Leads response.tag now y response.text after how next → Had (played response.tag now x) step old new response.text after how next
had_led step now next x y old new response after how p led =
    let whole = p.leads led.0 (record { events = []; bytes = led.1; after = how; standing = next }) led.2 in
    record {
      answers = whole.0;
      events = p.events ++ [];
      bytes = p.bytes ++ led.1;
      played = whole.1;
      met = Met-append step old new new p.events [] p.met refl;
      wrote = led.3 ∙ ap (λ (t : List ℕ). t ++ led.1) p.wrote.2 ∙ append_assoc response.text p.bytes led.1;
    }

-- the store wasn't asked, and this led here
pub had_led_alone : {S : Type 0} (step : S → Call → Answer → S → Type 0) (tag : List ℕ) (now next : Standing) (x : Exchange) (s : S) (before after : List ℕ) (how : After)
    → Leads tag now x before after how next → Had (played tag now x) step s s before after how next
had_led_alone step tag now next x s before after how led = record { answers = led.0; events = []; bytes = led.1; played = led.2; met = refl; wrote = led.3 }
