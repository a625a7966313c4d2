-- Whatever a client sends but a message that is stored, its answer tells no UID in its last line.
use Rattle.std.proofs.Common.{◌≡◌, inl, inr, ℕ, Bool, false, List, [], ◌∷◌, ◌++◌, map, length, refl, sym, subst, append-nil, Option, Some, None, Result, Ok, Err, ap, ◌∙◌}
use Rattle.std.specs.Prelude.{codes, IfSome, ◌==◌, ◌||◌}
use Rattle.change_ring.specs.View.{position}
use Rattle.change_ring.specs.Words.{spaced}
use Rattle.imap_grammar.specs.Reading.{read}
use Rattle.imap_grammar.specs.declared.command.Append.{Append}
use Rattle.imap_grammar.specs.declared.command.Command.{Command}
use Rattle.imap_grammar.specs.declared.command.Command.TheVariants as commands
use Rattle.imap_grammar.specs.declared.command.ImapFault.{ImapFault}
use Rattle.imap_grammar.specs.declared.command.ImapFault.TheVariants as faults
use Rattle.imap_grammar.specs.Verbs.{verb_of}
use Rattle.imap_session.specs.declared.standing.Selected.{Selected}
use Rattle.imap_session.specs.Exchange as ex
use Rattle.imap_session.specs.Exchange.{Answer, PendingLiteral, Folder, ForVerdict, Standing, bye, untagged, Copied}
use Rattle.imap_session.specs.Commands.{appending, asking, completed, number_named, on_command, on_idle_line, on_read, says, turn_of, without_begun, arguments_text, logged_in, on_text_line}
use Rattle.exactly_once.proofs.Whole.{bye_whole, ends, fetched_whole, flags_whole, list_whole, opening_whole, found_whole}
use Rattle.laws_client.proofs.IdleTags.{AreTagsOf}
use Rattle.laws_client.proofs.Tags.{TaggedOf, read_tagged_so}
use Rattle.laws_client.proofs.LastRests.{EndsFine, part_fine, rest_fine, says_fine, look_fine, row_fine}
use Rattle.laws_client.proofs.LastLines.{Apart, IsWord, SaysApart, Spares, TurnFine, bye_apart, fine_wait, plus_apart, star_apart, tagged_apart, fine_wanting}
use Rattle.imap_session.specs.declared.texts.ResponseText.TheVariants as texts
use Rattle.imap_session.specs.Texts.{response_text, server_text}
use Rattle.imap_session.proofs.Telling.{row_tells_none}
use Rattle.laws_client.proofs.TextRows.{row_inner}
use Rattle.imap_session.specs.declared.texts.ResponseText.{ResponseText}
use Rattle.imap_session.proofs.Barring.{line_has}
use Rattle.laws_client.proofs.WholeLines.{turn_has, text_has}
use Rattle.imap_grammar.specs.declared.command.CopyMessages.{CopyMessages}
use Rattle.exactly_once.proofs.Copying.{copies_so}
use Rattle.laws_client.proofs.EachCommand.{Steps, Tells, append_so, command_so, idle_line_so, select_so}
use Rattle.laws_client.proofs.Waiting.{SubmitsNone}
use Rattle.laws_client.specs.Appends.{tells_stored, tells_copy}
use Rattle.imap_grammar.specs.declared.command.Verb.{Verb}
use Rattle.imap_grammar.specs.declared.command.Verb.TheVariants as verbs

pub uid_spares : Spares tells_stored
uid_spares = record { no = λ rest. refl; bad = λ rest. refl }

verb_tells_none : (verb : Verb) → tells_copy (response_text (texts.Completed verb)) ≡ false
verb_tells_none verbs.Noop = refl
verb_tells_none _ = refl

row_tells_no_copy : (text : ResponseText) → tells_copy (response_text text) ≡ false
row_tells_no_copy (texts.Completed verb) = verb_tells_none verb
row_tells_no_copy _ = refl

-- no text of the table tells a UID
pub row_tells_neither : (text : ResponseText) → tells_stored (response_text text) ≡ false
row_tells_neither text = ap (λ (b : Bool). b || tells_copy (response_text text)) (row_tells_none text) ∙ row_tells_no_copy text

-- ---- what an exchange is made of

says_apart : (text : ResponseText) → SaysApart tells_stored (says (response_text text))
says_apart text = (row_inner text, row_tells_neither text)

apart_told : Tells (SaysApart tells_stored)
apart_told = record { told = says_apart; wanted = λ x p. (inl refl, p) }

-- ---- commands

fine_told : Tells (EndsFine tells_stored)
fine_told = record {
  told = λ text. says_fine tells_stored uid_spares (says (response_text text)) (says_apart text);
  wanted = λ x p tag t now answers. fine_wanting tells_stored uid_spares tag t now x (p tag t now) answers;
}

append_fine : (most : Option ℕ) (folders : List Folder) (a : Append) → EndsFine tells_stored (appending most folders a)
append_fine most folders a =
    append_so (EndsFine tells_stored) fine_told most folders a
    (λ mailbox named. says_fine tells_stored uid_spares (asking mailbox a.flags a.date a.literal.size) (plus_apart tells_stored texts.Ready, tt))
    (λ tag t now answers. fine_wait tells_stored uid_spares tag t now (ex.ForLiteral ex.Unasked (ex.Message (number_named a.name folders) a.flags a.date) a.literal.size) answers)
    (says_fine tells_stored uid_spares (ex.Wait (bye (response_text texts.LiteralTooBig)) ex.ForNothing) (bye_apart tells_stored texts.LiteralTooBig, tt))

copy_fine : (tag : List ℕ) (now : Standing) (copy : CopyMessages) → EndsFine tells_stored (on_command tag now (commands.Copy copy))
copy_fine tag now copy =
    copies_so (EndsFine tells_stored) (record {
      told = λ text. says_fine tells_stored uid_spares (says (response_text text)) (says_apart text);
      wanted = λ x p tag t now answers. fine_wanting tells_stored uid_spares tag t now x (p tag t now) answers;
      looked = look_fine tells_stored uid_spares;
      found = row_fine tells_stored uid_spares;
    }) tag now copy
    (λ batch mailbox row copied tag t now answers. fine_wait tells_stored uid_spares tag t now (ForVerdict (Copied batch) mailbox row.flags row.text) answers)

apart_steps : (tag : List ℕ) (now : Standing) (command : Command) → SubmitsNone command → Steps tag now command (λ view. SaysApart tells_stored)
apart_steps tag now command other =
    let done : SaysApart tells_stored (completed command) = says_apart (texts.Completed (verb_of command)) in
    record {
      told = λ view text may. says_apart text;
      wanted = λ view x p. (inl refl, p);
      shown = λ view. done;
      removed = λ view uids. done;
      noticed = λ view text x p. (ends (codes "* ") (server_text text), p);
      listed = λ view listing reference pattern x p. (list_whole listing reference pattern (map (λ (folder : Folder). folder.name) now.folders), p);
      counted = λ view name items folder x is p status. (ends (codes "* STATUS " ++ folder.name ++ codes " (" ++ spaced (map _ items)) (codes ")"), p);
      looked = λ view by_uid set next p. p;
      reads = λ view uid mark next p. p;
      fetches = λ fetch is view mark uid there gone known p q. elim [ None ↦ q | Some row ↦ (fetched_whole fetch view uid row, p) ];
      alters = λ view uid op there gone p q. elim [ None ↦ q | Some flags ↦ p ];
      stores = λ by_uid view uid op there gone known p q. elim [ None ↦ q | Some flags ↦ (flags_whole by_uid (position uid view) uid flags, p) ];
      finds = λ search view found x p. (found_whole tag search.by_uid search.returns found, p);
      enters = λ view read_only name off quiet. select_so (SaysApart tells_stored) apart_told now read_only name (λ x p. (ends (codes "* ") (response_text texts.PreviousClosed), p))
          (λ x p. (ends (codes "* ") (response_text texts.NoneRecent), p)) (λ folder is p opening. (opening_whole read_only folder.name opening, p));
      leaves = λ view remove off quiet. done;
      idles = λ view is. (plus_apart tells_stored texts.Idling, tt);
      parts = λ view is. (bye_whole (response_text texts.LoggingOut), says_apart (texts.Completed verbs.Logout));
      appends = λ view append is. absurd (subst SubmitsNone is other);
      submits = λ view copy is batch mailbox row copied. absurd (subst SubmitsNone is other);
    }

command_apart : (tag : List ℕ) (now : Standing) (command : Command) → EndsFine tells_stored (on_command tag now command)
command_apart tag now (commands.Append append) = append_fine now.mailing.most now.folders append
command_apart tag now (commands.Copy copy) = copy_fine tag now copy
command_apart tag now command =
    says_fine tells_stored uid_spares (on_command tag now command) (command_so tag now command (λ view. SaysApart tells_stored) (apart_steps tag now command tt) [])

-- ---- lines

idling_apart : (selected : Option Selected) (line : List ℕ) → SaysApart tells_stored (on_idle_line selected line)
idling_apart selected line = idle_line_so (SaysApart tells_stored) selected line (refl, refl) (refl, refl) (refl, refl)

fault_fine : (fault : ImapFault) (now : Standing) (answers : List Answer) → TaggedOf IsWord (Err fault) → TurnFine tells_stored (on_read now (Err fault) answers)
fault_fine faults.NoTag now [] t = inr (subst (Apart tells_stored) (sym (append-nil (untagged (response_text texts.MissingTag)))) (star_apart tells_stored texts.MissingTag))
fault_fine (faults.Unknown tag) now [] t = inr (subst (Apart tells_stored) (sym (append-nil (ex.tagged tag (response_text texts.UnknownCommand)))) (tagged_apart tells_stored tag (response_text texts.UnknownCommand) t refl refl))
fault_fine (faults.LeftOut tag) now [] t = inr (subst (Apart tells_stored) (sym (append-nil (ex.tagged tag (response_text texts.NotOffered)))) (tagged_apart tells_stored tag (response_text texts.NotOffered) t refl refl))
fault_fine (faults.Arguments tag verb) now [] t =
    let text : ResponseText = arguments_text now.profile verb in
    inr (subst (Apart tells_stored) (sym (append-nil (ex.tagged tag (response_text text)))) (tagged_apart tells_stored tag (response_text text) t (row_inner text) (row_tells_neither text)))
fault_fine fault now (answer ∷ more) t = tt

read_fine : (now : Standing) (r : Result (List ℕ × Command) ImapFault) (answers : List Answer) → TaggedOf IsWord r → TurnFine tells_stored (on_read now r answers)
read_fine now (Ok line) answers t =
    line_has (TurnFine tells_stored) now line.0 line.1 answers (λ logs. says_fine tells_stored uid_spares (completed line.1) (says_apart (texts.Completed (verb_of line.1))) line.0 t (logged_in now) answers)
    (λ text is. says_fine tells_stored uid_spares (says (response_text text)) (says_apart text) line.0 t now answers) (command_apart line.0 now line.1 line.0 t now answers)
read_fine now (Err fault) answers t = fault_fine fault now answers t

text_fine : (now : Standing) (line : List ℕ) (answers : List Answer) → TurnFine tells_stored (on_text_line now line answers)
text_fine now line answers =
    let tagged : TaggedOf IsWord (read line) = read_tagged_so IsWord (λ tag word. word) line in
    text_has IsWord (TurnFine tells_stored) now line answers tagged (λ tag x t part lacks. part_fine tells_stored uid_spares x part tag t now answers) (read_fine now (read line) answers tagged)

pub line_fine : (now : Standing) (line : List ℕ) (answers : List Answer) → AreTagsOf IsWord now → TurnFine tells_stored (turn_of now line answers)
line_fine now line answers k =
    turn_has (λ whole o. TurnFine tells_stored o) now line answers
    (λ tag b i. says_fine tells_stored uid_spares (on_idle_line now.selected line) (idling_apart now.selected line) tag (subst (λ (o : Option (List ℕ)). IfSome o IsWord) i k.0) (record now { idling = None }) answers)
    (λ a mailbox flags date b p. rest_fine tells_stored uid_spares now.mailing a (length line == 0) a.tag (begun_word a b) (without_begun now) answers)
    (λ a x b part. part_fine tells_stored uid_spares x part a.tag (begun_word a b) (without_begun now) answers) (λ whole w. text_fine (without_begun now) whole answers)
  where
    begun_word : (a : PendingLiteral) → now.mailing.begun ≡ Some a → IsWord a.tag
    begun_word a b = subst (λ (o : Option PendingLiteral). IfSome o (λ (x : PendingLiteral). IsWord x.tag)) b k.1
