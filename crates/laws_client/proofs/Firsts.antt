-- A message that a session submits at a line is the first of its command: no copies of its batch are stored.
use Rattle.std.proofs.Common.{◌≡◌, ◌⊎◌, inl, inr, ℕ, Bool, List, [], ◌∷◌, length, refl, sym, ap, ◌∙◌, subst, Option, Some, None, ◌==◌}
use Rattle.std.specs.Prelude.{Result, Ok, Err}
use Rattle.std.proofs.lemmas.Option.{none-some}
use Rattle.imap_grammar.specs.Reading.{read}
use Rattle.imap_grammar.specs.declared.command.Append.{Append}
use Rattle.imap_grammar.specs.declared.command.Command.{Command}
use Rattle.imap_grammar.specs.declared.command.Command.TheVariants as commands
use Rattle.imap_grammar.specs.declared.command.CopyMessages.{CopyMessages}
use Rattle.imap_grammar.specs.declared.command.ImapFault.{ImapFault}
use Rattle.imap_session.specs.Exchange.{Answer, Client, Copied, ForDone, ForLiteral, ForNothing, ForVerdict, Mailing, Sent, Standing, Turn, Waiting}
use Rattle.imap_session.specs.Commands.{copies_of, fault_text, logs_in_as, number_named, on_line, on_read, on_text_line, only_says, turn_of, without_begun}
use Rattle.laws_client.proofs.Submitted.{command_case}
use Rattle.laws_client.proofs.Turns.{the_turn}
use Rattle.laws_client.proofs.Waiting.{ForItsArgument, ForItsCopy, ForItsLiteral, ForItsResponse, ForItsVerdict, IsMail, append_mail, argument_mail, copy_mail, given_mail, idling_mail, other_mail, response_mail, rest_mail, waiting_mail}
use Rattle.laws_client.proofs.WholeLines.{text_awaits, turn_given}

-- the same message waits for its verdict as before, or one does that is the first of its command
abbrev pub StartsNew : Mailing → Mailing → Type 0
StartsNew old new = (new.sent ≡ old.sent) ⊎ ((s : Sent) → new.sent ≡ Some s → copies_of s.origin ≡ [])

-- where a session waits so, the message is the first
abbrev IsFirst : Waiting → Type 0
IsFirst (ForVerdict origin mailbox flags text) = copies_of origin ≡ []
IsFirst w = Unit {0}

abbrev IfFirst : Option Sent → Type 0
IfFirst None = Unit {0}
IfFirst (Some s) = copies_of s.origin ≡ []

none_stored : (m : Mailing) (tag : List ℕ) (w : Waiting) (next : Mailing) → IsFirst w → next ≡ waiting_mail tag w m → StartsNew m next
none_stored m tag ForDone next first e = inl (ap (λ (x : Mailing). x.sent) e)
none_stored m tag (ForLiteral coming purpose size) next first e = inl (ap (λ (x : Mailing). x.sent) e)
none_stored m tag ForNothing next first e = inl (ap (λ (x : Mailing). x.sent) e)
none_stored m tag (ForVerdict origin mailbox flags text) next first e =
    inr (λ s is. subst (λ (o : Option Sent). IfFirst o) (sym (ap (λ (x : Mailing). x.sent) e) ∙ is) first)

starts : (A : Waiting → Type 0) (tag : List ℕ) (m next : Mailing) → ((w : Waiting) → A w → IsFirst w) → IsMail A tag m next → StartsNew m next
starts A tag m next first (inl e) = inl (ap (λ (x : Mailing). x.sent) e)
starts A tag m next first (inr (w, a, e)) = none_stored m tag w next (first w a) e

first_literal : (found : Option ℕ) (append : Append) (w : Waiting) → ForItsLiteral found append w → IsFirst w
first_literal found append ForDone h = tt
first_literal found append (ForLiteral coming purpose size) h = tt
first_literal found append ForNothing h = tt
first_literal found append (ForVerdict origin mailbox flags text) h = absurd h

first_argument : (line : List ℕ) (found : _) (w : Waiting) → ForItsArgument line found w → IsFirst w
first_argument line found ForDone h = tt
first_argument line found (ForLiteral coming purpose size) h = tt
first_argument line found ForNothing h = tt
first_argument line found (ForVerdict origin mailbox flags text) h = absurd h

first_response : (line : List ℕ) (w : Waiting) → ForItsResponse line w → IsFirst w
first_response line ForDone h = tt
first_response line (ForLiteral coming purpose size) h = tt
first_response line ForNothing h = tt
first_response line (ForVerdict origin mailbox flags text) h = absurd h

first_appended : (a : _) (empty : Bool) (w : Waiting) → ForItsVerdict a empty w → IsFirst w
first_appended a empty ForDone h = tt
first_appended a empty (ForLiteral coming purpose size) h = tt
first_appended a empty ForNothing h = tt
first_appended a empty (ForVerdict origin mailbox flags text) h = ap copies_of h.4

first_copy : (found : Option ℕ) (copy : CopyMessages) (w : Waiting) → ForItsCopy found copy w → IsFirst w
first_copy found copy ForDone h = tt
first_copy found copy (ForLiteral coming purpose size) h = tt
first_copy found copy ForNothing h = tt
first_copy found copy (ForVerdict Client mailbox flags text) h = refl
first_copy found copy (ForVerdict (Copied batch) mailbox flags text) h = h.1.first

-- ---- lines

text_starts : (line : List ℕ) (now : Standing) (answers : List Answer) (turn : Turn) → on_text_line (without_begun now) line answers ≡ Some turn → StartsNew now.mailing turn.standing.mailing
text_starts line now answers turn e =
    text_awaits (λ o. o ≡ Some turn → StartsNew now.mailing turn.standing.mailing) bare line answers
    (λ tag found f d. starts (ForItsArgument line found) tag bare.mailing turn.standing.mailing (first_argument line found) (argument_mail tag bare line found answers turn d))
    (λ tag a f d. starts (ForItsResponse line) tag bare.mailing turn.standing.mailing (first_response line) (response_mail tag bare line answers turn d)) (λ d. reads (read line) refl d) e
  where
    bare : Standing
    bare = without_begun now

    said : (text : List ℕ) (answers : List Answer) → only_says text bare answers ≡ Some turn → StartsNew now.mailing turn.standing.mailing
    said text [] e = inl (ap (λ (t : Turn). t.standing.mailing.sent) (sym (ap (the_turn turn) e)))
    said text (a ∷ more) e = absurd (none-some turn e)

    reads : (found : Result (List ℕ × Command) ImapFault) → read line ≡ found → on_read bare found answers ≡ Some turn → StartsNew now.mailing turn.standing.mailing
    reads (Err fault) is e = said (fault_text now.profile fault) answers e
    reads (Ok l) is e =
        command_case l.1
        (λ append same.
        let as_append : on_line (logs_in_as now.login (commands.Append append)) bare l.0 (commands.Append append) answers ≡ Some turn = subst (λ (c : Command). on_line (logs_in_as now.login c) bare l.0 c answers ≡ Some turn) same e in
        starts (ForItsLiteral (number_named append.name bare.folders) append) l.0 bare.mailing turn.standing.mailing (first_literal (number_named append.name bare.folders) append) (append_mail l.0 bare append answers turn as_append))
        (λ copy same.
        let as_copy : on_line (logs_in_as now.login (commands.Copy copy)) bare l.0 (commands.Copy copy) answers ≡ Some turn = subst (λ (c : Command). on_line (logs_in_as now.login c) bare l.0 c answers ≡ Some turn) same e in
        starts (ForItsCopy (number_named copy.name bare.folders) copy) l.0 bare.mailing turn.standing.mailing (first_copy (number_named copy.name bare.folders) copy) (copy_mail l.0 bare copy answers turn as_copy))
        (λ other. inl (ap (λ (x : Mailing). x.sent) (other_mail l.0 bare l.1 answers turn other e)))

pub line_starts : (now : Standing) (line : List ℕ) (answers : List Answer) (turn : Turn) → turn_of now line answers ≡ Some turn → StartsNew now.mailing turn.standing.mailing
line_starts now line answers turn e =
    turn_given (λ whole o. o ≡ Some turn → StartsNew now.mailing turn.standing.mailing) now line answers
    (λ tag b i d. inl (ap (λ (x : Mailing). x.sent) (idling_mail tag (record now { idling = None }) now.selected line answers turn d)))
    (λ a mailbox flags date b p d. starts (ForItsVerdict a (length line == 0)) a.tag (without_begun now).mailing turn.standing.mailing (first_appended a (length line == 0)) (rest_mail (without_begun now) now.mailing a (length line == 0) answers turn d))
    (λ a told parting b t p d. inl (ap (λ (x : Mailing). x.sent) (given_mail a.tag (without_begun now) line told parting answers turn d)))
    (λ whole w d. text_starts whole now answers turn d) e
