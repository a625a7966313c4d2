-- Lines whose command isn't carried out, and those that log a client in: what they ask of a mailbox, and what they say.
use Rattle.std.proofs.Common.{◌≡◌, ℕ, true, false, List, refl, ap, ◌∙◌}
use Rattle.std.specs.Prelude.{Option, Some, None}
use Rattle.std.proofs.lemmas.Bool.{false≢true}
use Rattle.imap_grammar.specs.declared.command.Command.{Command}
use Rattle.imap_grammar.specs.declared.command.Command.TheVariants as commands
use Rattle.imap_session.specs.declared.standing.After.TheVariants.{Go}
use Rattle.imap_session.specs.declared.texts.ResponseText.{ResponseText}
use Rattle.imap_session.specs.declared.texts.ResponseText.TheVariants as texts
use Rattle.imap_session.specs.Texts.{response_text}
use Rattle.imap_session.specs.Exchange.{Answer, Standing, Turn, played, tagged}
use Rattle.imap_session.specs.Commands.{completed, logged_in, logs_in_as, on_command, on_line, says, wants_response}
use Rattle.imap_session.proofs.Barring.{line_has, refuses}
use Rattle.laws_client.specs.Clients.{Asked, Entering, Leaving, Neither, has_ok}
use Rattle.laws_client.specs.Current.{shows_all}
use Rattle.laws_client.specs.ListTurns.{IsTag}
use Rattle.laws_client.proofs.Reading.{asked_by}
use Rattle.laws_client.proofs.RecordEntering.{only_done, tagged_has}

-- the turn of a line that is a command: it logs the client in, or the command is refused, or carried out
pub line_case : (P : Type 0) (now : Standing) (tag : List ℕ) (command : Command) (answers : List Answer) (turn : Turn)
    → (logs_in_as now.login command ≡ true → played tag (logged_in now) (completed command) answers ≡ Some turn → P)
    → ((text : ResponseText) → refuses text ≡ true → played tag now (says (response_text text)) answers ≡ Some turn → P)
    → (played tag now (on_command tag now command) answers ≡ Some turn → P)
    → on_line (logs_in_as now.login command) now tag command answers ≡ Some turn → P
line_case P now tag command answers turn right refused done = line_has (λ o. o ≡ Some turn → P) now tag command answers right refused done

-- ---- what the line asked

-- by what a command asks of a mailbox
pub asked_has : (P : Asked → Type 0) (tag : List ℕ) (command : Command) → P (Entering tag) → P (Leaving tag) → P Neither → P (asked_by tag command)
asked_has P tag (commands.Select name) enters leaves neither = enters
asked_has P tag (commands.Examine name) enters leaves neither = enters
asked_has P tag commands.Close enters leaves neither = leaves
asked_has P tag commands.Unselect enters leaves neither = leaves
asked_has P tag _ enters leaves neither = neither

-- LOGIN and AUTHENTICATE ask for no mailbox, leave none and show nothing of one
pub login_asks : (login : Option (List ℕ)) (tag : List ℕ) (command : Command) → logs_in_as login command ≡ true → asked_by tag command ≡ Neither
login_asks None tag command e = absurd (false≢true e)
login_asks (Some user) tag (commands.Login name password) e = refl
login_asks (Some user) tag (commands.Authenticate a) e = refl
login_asks (Some user) tag _ e = absurd (false≢true e)

pub login_shows_none : (login : Option (List ℕ)) (command : Command) → logs_in_as login command ≡ true → shows_all command ≡ false
login_shows_none None command e = absurd (false≢true e)
login_shows_none (Some user) (commands.Login name password) e = refl
login_shows_none (Some user) (commands.Authenticate a) e = refl
login_shows_none (Some user) _ e = absurd (false≢true e)

pub shown_waits : (login : Option (List ℕ)) (command : Command) → shows_all command ≡ true → wants_response login command ≡ false
shown_waits None command e = refl
shown_waits (Some user) (commands.Authenticate a) e = absurd (false≢true e)
shown_waits (Some user) _ e = refl

-- ---- what is said

-- a text that refuses a command is no OK
pub refused_has : (tag : List ℕ) (text : ResponseText) → IsTag tag → refuses text ≡ true → has_ok true tag (tagged tag (response_text text)) ≡ false
refused_has tag texts.WrongState t is = tagged_has tag (response_text texts.WrongState) t
refused_has tag texts.UnknownCommand t is = tagged_has tag (response_text texts.UnknownCommand) t
refused_has tag texts.NotOffered t is = tagged_has tag (response_text texts.NotOffered) t
refused_has tag texts.InvalidArguments t is = tagged_has tag (response_text texts.InvalidArguments) t
refused_has tag texts.LoginFailed t is = tagged_has tag (response_text texts.LoginFailed) t
refused_has tag _ t is = absurd (false≢true is)

-- so the turn of a command that is refused has none
pub refused_turn : (tag : List ℕ) (text : ResponseText) (now : Standing) (answers : List Answer) (turn : Turn) → IsTag tag → refuses text ≡ true → played tag now (says (response_text text)) answers ≡ Some turn
    → has_ok true tag turn.bytes ≡ false
refused_turn tag text now answers turn t is e = ap (has_ok true tag) (only_done tag (response_text text) Go now answers turn e).bytes ∙ refused_has tag text t is
