-- What stays so of a session behind a line, as the mailboxes that it knows by name.
use Rattle.std.proofs.Common.{◌≡◌, ℕ, Bool, List, ◌∷◌, length, ap, refl, subst, []}
use Rattle.std.specs.Prelude.{Option, Some, None, Result, Ok, Err, ◌==◌}
use Rattle.std.proofs.lemmas.Option.{none-some}
use Rattle.imap_grammar.specs.Reading.{read}
use Rattle.imap_grammar.specs.declared.command.Command.{Command}
use Rattle.imap_grammar.specs.declared.command.ImapFault.{ImapFault}
use Rattle.imap_session.specs.declared.standing.Selected.{Selected}
use Rattle.imap_session.specs.Exchange.{Answer, ForDone, Folder, Standing, Turn, Sent, Waiting, waiting}
use Rattle.imap_session.specs.Commands.{idle_turn_in, turn_of, fault_text, on_command, on_idle_line, on_read, on_rest, on_verdict, only_says, turn_of_verdict, turn_with, without_begun, without_sent, logged_in, completed, says}
use Rattle.delivery_token.specs.declared.Verdict.{Verdict}
use Rattle.laws_client.proofs.Barred.{line_case}
use Rattle.exactly_once.proofs.EachExchange.{idle_keeps}
use Rattle.laws_client.proofs.IdleTags.{Keeps, played_keeps}
use Rattle.laws_client.proofs.Turns.{the_turn}
use Rattle.imap_session.specs.Texts.{response_text}
use Rattle.imap_session.proofs.Parts.{text_line_has}
use Rattle.laws_client.proofs.WholeLines.{turn_has}

-- ---- what stays so behind a line

-- whatever stays so while it answers, of a session that no longer idles, or waits for no literal, also where it logs in
pub line_stays : (Q : Standing → Type 0) → ((tag : List ℕ) → Keeps Q tag) → (now : Standing) (line : List ℕ) (answers : List Answer) (turn : Turn) → Q (record now { idling = None }) → Q (without_begun now) → Q (logged_in (without_begun now))
    → turn_of now line answers ≡ Some turn → Q turn.standing
line_stays Q keeps now line answers turn r s l e =
    turn_has (λ whole o. o ≡ Some turn → Q turn.standing) now line answers
    (λ tag b i d. played_keeps Q tag (keeps tag) (record now { idling = None }) (on_idle_line now.selected line) answers turn r d)
    (λ a mailbox flags date b p d. played_keeps Q a.tag (keeps a.tag) bare (on_rest now.mailing a (length line == 0)) answers turn s d)
    (λ a x b part d. played_keeps Q a.tag (keeps a.tag) bare x answers turn s d)
    (λ whole w d. text_line_has (λ o. o ≡ Some turn → Q turn.standing) bare whole answers (λ tag x part f. played_keeps Q tag (keeps tag) bare x answers turn s f) (λ f. reads (read whole) f) d) e
  where
    bare : Standing
    bare = without_begun now

    said : (text : List ℕ) (answers : List Answer) → only_says text bare answers ≡ Some turn → Q turn.standing
    said text [] e = subst (λ (t : Turn). Q t.standing) (ap (the_turn turn) e) s
    said text (a ∷ more) e = absurd (none-some turn e)

    reads : (found : Result (List ℕ × Command) ImapFault) → on_read bare found answers ≡ Some turn → Q turn.standing
    reads (Ok c) e =
        line_case (Q turn.standing) bare c.0 c.1 answers turn (λ logs d. played_keeps Q c.0 (keeps c.0) (logged_in bare) (completed c.1) answers turn l d)
        (λ text is d. played_keeps Q c.0 (keeps c.0) bare (says (response_text text)) answers turn s d) (λ d. played_keeps Q c.0 (keeps c.0) bare (on_command c.0 bare c.1) answers turn s d) e
    reads (Err fault) e = said (fault_text now.profile fault) answers e

-- ---- the mailboxes

waiting_keeps : (folders : List Folder) (tag : List ℕ) (now : Standing) (w : Waiting) → now.folders ≡ folders → (waiting tag w now).folders ≡ folders
waiting_keeps folders tag now ForDone k = k
waiting_keeps folders tag now _ k = k

folders_keep : (folders : List Folder) (tag : List ℕ) → Keeps (λ (s : Standing). s.folders ≡ folders) tag
folders_keep folders tag = record { ends = λ now k. k; enters = λ now selected k. k; waits = waiting_keeps folders tag }

pub line_folders : (now : Standing) (line : List ℕ) (answers : List Answer) (turn : Turn) → turn_of now line answers ≡ Some turn → turn.standing.folders ≡ now.folders
line_folders now line answers turn e = line_stays (λ (s : Standing). s.folders ≡ now.folders) (folders_keep now.folders) now line answers turn refl refl refl e

pub heard_folders : (sent : Option Sent) (now : Standing) (verdict : Verdict) (answers : List Answer) (turn : Turn) → turn_with sent now verdict answers ≡ Some turn → turn.standing.folders ≡ now.folders
heard_folders None now verdict answers turn e = absurd (none-some turn e)
heard_folders (Some sent) now verdict answers turn e =
    played_keeps (λ (s : Standing). s.folders ≡ now.folders) sent.tag (folders_keep now.folders sent.tag) (without_sent now) (on_verdict now.mailing now.selected sent.origin sent.append.mailbox verdict) answers turn refl e

pub verdict_folders : (now : Standing) (verdict : Verdict) (answers : List Answer) (turn : Turn) → turn_of_verdict now verdict answers ≡ Some turn → turn.standing.folders ≡ now.folders
verdict_folders now verdict answers turn e = heard_folders now.mailing.sent now verdict answers turn e

pub idle_folders : (selected : Option Selected) (idling : Bool) (now : Standing) (answers : List Answer) (turn : Turn) → idle_turn_in selected idling now answers ≡ Some turn → turn.standing.folders ≡ now.folders
idle_folders selected idling now answers turn e = idle_keeps (λ (s : Standing). s.folders ≡ now.folders) selected idling now answers turn refl refl e
