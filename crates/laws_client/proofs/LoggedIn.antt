-- A client that is to log in first has no mailbox selected till then.
use Rattle.std.proofs.Common.{◌≡◌, ℕ, ◌==◌, Bool, true, false, List, length, refl, sym, subst, ap, ◌∙◌}
use Rattle.std.specs.Prelude.{Option, Some, None, IfSome, Result, Ok, Err}
use Rattle.std.proofs.lemmas.Option.{none-some}
use Rattle.world.specs.World.{Config, World}
use Rattle.delivery_token.specs.declared.Verdict.{Verdict}
use Rattle.imap_grammar.specs.Reading.{read}
use Rattle.imap_grammar.specs.declared.command.Command.{Command}
use Rattle.imap_grammar.specs.declared.command.Command.TheVariants as commands
use Rattle.imap_grammar.specs.declared.command.ImapFault.{ImapFault}
use Rattle.imap_session.specs.declared.standing.Selected.{Selected}
use Rattle.imap_session.specs.Exchange.{Answer, ForDone, Sent, Standing, Turn, Waiting, is_idling, played, waiting}
use Rattle.imap_session.specs.Commands.{barred_at, fault_text, logged_in, without_login, logs_in_as, on_command, on_found, on_idle_line, on_line, on_read, on_rest, on_verdict, says, turn_with, without_begun, without_sent, on_text_line, completed, turn_of}
use Rattle.imap_session.specs.Texts.{response_text}
use Rattle.laws_client.specs.HouseClients.{comes, turns, others}
use Rattle.laws_client.specs.HouseClients.{Lives}
use Rattle.laws_client.specs.Selecting.{HasLoggedIn, LoginComesFirst}
use Rattle.imap_session.specs.Happenings.{Happening, Heard, Line, Literal, LongLine, Told, Turned, leads_to}
use Rattle.exactly_once.proofs.EachExchange.{idle_keeps}
use Rattle.laws_client.proofs.IdleTags.{Keeps, played_keeps}
use Rattle.laws_client.proofs.Selecting.{StaysIn, fault_sel, idle_selected, in_command, in_found, in_idle_line, in_part, in_rest, selected_stays, verdict_sel}
use Rattle.laws_client.proofs.Folders.{line_stays}
use Rattle.laws_client.proofs.Turns.{the_turn}
use Rattle.imap_session.proofs.Parts.{text_line_has}
use Rattle.laws_client.proofs.WholeLines.{turn_has}

-- ---- who has logged in

NoLogin : Standing → Type 0
NoLogin s = s.login ≡ None

waits_on : (tag : List ℕ) (now : Standing) (w : Waiting) → NoLogin now → NoLogin (waiting tag w now)
unfolding NoLogin
waits_on tag now ForDone k = k
waits_on tag now _ k = k

keeps : (tag : List ℕ) → Keeps NoLogin tag
unfolding NoLogin
keeps tag = record { ends = λ now k. k; enters = λ now selected k. k; waits = waits_on tag }

heard_login : (sent : Option Sent) (now : Standing) (verdict : Verdict) (answers : List Answer) (turn : Turn) → now.login ≡ None → turn_with sent now verdict answers ≡ Some turn → turn.standing.login ≡ None
unfolding NoLogin
heard_login None now verdict answers turn none e = absurd (none-some turn e)
heard_login (Some sent) now verdict answers turn none e = played_keeps NoLogin sent.tag (keeps sent.tag) (without_sent now) (on_verdict now.mailing now.selected sent.origin sent.append.mailbox verdict) answers turn none e

none_asked : (now : Standing) (happening : Happening) (turn : Turn) → now.login ≡ None → leads_to now happening ≡ Some turn → turn.standing.login ≡ None
unfolding NoLogin
none_asked now (Line line answers) turn none e = line_stays NoLogin keeps now line answers turn none none refl e
none_asked now LongLine turn none e = ap (λ (t : Turn). t.standing.login) (sym (ap (the_turn turn) e)) ∙ none
none_asked now (Turned answers) turn none e = idle_keeps NoLogin now.selected (is_idling now) now answers turn none none e
none_asked now (Literal kept bytes) turn none e = ap (λ (t : Turn). t.standing.login) (sym (ap (the_turn turn) e)) ∙ none
none_asked now (Heard verdict answers) turn none e = heard_login now.mailing.sent now verdict answers turn none e

-- ---- who is still to log in

-- what it may ask enters no mailbox
early_stays : (tag : List ℕ) (now : Standing) (command : Command) → StaysIn (on_found (λ text. says (response_text text)) (on_command tag now command) (without_login command))
early_stays tag now (commands.Select name) = tt
early_stays tag now (commands.Examine name) = tt
early_stays tag now commands.Close = tt
early_stays tag now commands.Unselect = tt
early_stays tag now (commands.Authenticate a) = tt
early_stays tag now command = in_found (λ text. says (response_text text)) (on_command tag now command) (without_login command) (λ text. tt) (in_command tag now command refl)

line_early : (now : Standing) (tag user : List ℕ) (command : Command) (answers : List Answer) (turn : Turn) → now.login ≡ Some user → on_line (logs_in_as now.login command) now tag command answers ≡ Some turn → turn.standing.selected ≡ now.selected
line_early now tag user command answers turn early e = by (logs_in_as now.login command) e
  where
    by : (b : Bool) → on_line b now tag command answers ≡ Some turn → turn.standing.selected ≡ now.selected
    by true d = selected_stays tag (logged_in now) (completed command) answers turn tt d
    by false d = selected_stays tag now (on_found (λ text. says (response_text text)) (on_command tag now command) (without_login command)) answers turn (early_stays tag now command)
        (subst (λ (login : Option (List ℕ)). played tag now (on_found (λ text. says (response_text text)) (on_command tag now command) (barred_at login now.profile command)) answers ≡ Some turn) early d)

read_early : (now : Standing) (user : List ℕ) (r : Result (List ℕ × Command) ImapFault) (answers : List Answer) (turn : Turn) → now.login ≡ Some user → on_read now r answers ≡ Some turn → turn.standing.selected ≡ now.selected
read_early now user (Ok line) answers turn early e = line_early now line.0 user line.1 answers turn early e
read_early now user (Err fault) answers turn early e = fault_sel now (fault_text now.profile fault) answers turn e

text_early : (now : Standing) (user line : List ℕ) (answers : List Answer) (turn : Turn) → now.login ≡ Some user → on_text_line now line answers ≡ Some turn → turn.standing.selected ≡ now.selected
text_early now user line answers turn early e =
    text_line_has (λ o. o ≡ Some turn → turn.standing.selected ≡ now.selected) now line answers (λ tag x part d. selected_stays tag now x answers turn (in_part x part) d)
    (λ d. read_early now user (read line) answers turn early d) e

line_in_early : (now : Standing) (user line : List ℕ) (answers : List Answer) (turn : Turn) → now.login ≡ Some user → turn_of now line answers ≡ Some turn → turn.standing.selected ≡ now.selected
line_in_early now user line answers turn early e =
    turn_has (λ whole o. o ≡ Some turn → turn.standing.selected ≡ now.selected) now line answers
    (λ tag b i d. selected_stays tag (record now { idling = None }) (on_idle_line now.selected line) answers turn (in_idle_line now.selected line) d)
    (λ a mailbox flags date b p d. selected_stays a.tag (without_begun now) (on_rest now.mailing a (length line == 0)) answers turn (in_rest now.mailing a (length line == 0)) d)
    (λ a x b part d. selected_stays a.tag (without_begun now) x answers turn (in_part x part) d) (λ whole w d. text_early (without_begun now) user whole answers turn early d) e

happens_early : (now : Standing) (user : List ℕ) (happening : Happening) (turn : Turn) → now.login ≡ Some user → leads_to now happening ≡ Some turn → turn.standing.selected ≡ now.selected
happens_early now user (Line line answers) turn early e = line_in_early now user line answers turn early e
happens_early now user LongLine turn early e = ap (λ (t : Turn). t.standing.selected) (sym (ap (the_turn turn) e))
happens_early now user (Turned answers) turn early e = idle_selected now.selected (is_idling now) now answers turn e
happens_early now user (Literal kept bytes) turn early e = ap (λ (t : Turn). t.standing.selected) (sym (ap (the_turn turn) e))
happens_early now user (Heard verdict answers) turn early e = verdict_sel now.mailing.sent now verdict answers turn e

-- ---- a turn, and a whole life

none_selected : (login : Option (List ℕ)) (selected : Option Selected) → selected ≡ None → IfSome login (λ user. selected ≡ None)
none_selected None selected e = tt
none_selected (Some user) selected e = e

turn_logged_in : (now : Standing) (happening : Happening) (turn : Turn) → HasLoggedIn now → leads_to now happening ≡ Some turn → HasLoggedIn turn.standing
turn_logged_in now happening turn h e = by now.login refl h
  where
    by : (login : Option (List ℕ)) → now.login ≡ login → IfSome login (λ user. now.selected ≡ None) → HasLoggedIn turn.standing
    by None none h = subst (λ (login : Option (List ℕ)). IfSome login (λ user. turn.standing.selected ≡ None)) (sym (none_asked now happening turn none e)) tt
    by (Some user) early h = none_selected turn.standing.login turn.standing.selected (happens_early now user happening turn early e ∙ h)

lives_logged_in : (k : Config) (n : ℕ) (first : Standing) (began : World) {sent : List ℕ} {told : List Told} {now : Standing} {w : World} → HasLoggedIn first → Lives k n first began sent told now w → HasLoggedIn now
lives_logged_in k n first began h comes = h
lives_logged_in k n first began h (turns {now = now} lives happening bytes turn v timely sent printed e met) = turn_logged_in now happening turn (lives_logged_in k n first began h lives) e
lives_logged_in k n first began h (others lives event v o step) = lives_logged_in k n first began h lives

pub login_comes_first : LoginComesFirst
login_comes_first k n admission folders began sent told now w lives = lives_logged_in k n _ began (none_selected admission.login None refl) lives
