-- A turn of a session, as its client hears it that knows which of its lines were SELECT, EXAMINE, CLOSE or UNSELECT.
use Rattle.std.proofs.Common.{◌≡◌, ℕ, true, false, List, [], refl, sym, subst, ap}
use Rattle.std.specs.Prelude.{Option, Some, None, Result, Ok, Err, not}
use Rattle.world.specs.World.{Config, World}
use Rattle.imap_grammar.specs.Reading.{read}
use Rattle.imap_grammar.specs.declared.command.Command.{Command}
use Rattle.imap_grammar.specs.declared.command.Command.TheVariants as commands
use Rattle.imap_grammar.specs.declared.command.ImapFault.{ImapFault}
use Rattle.imap_session.specs.Exchange.{Answer as StoreAnswer, Standing, Folder, Turn, is_idling, played}
use Rattle.imap_session.specs.Commands.{logged_in, on_command, on_read, says, turn_of, on_text_line, wants_response, without_begun}
use Rattle.imap_session.specs.Store.{Met}
use Rattle.laws_client.specs.Client.{Client}
use Rattle.laws_client.specs.Commands.{AreNames, HasToldParts, MayAnswer, MayAsk, stays, MayCome}
use Rattle.laws_client.specs.Fetches.{IsNumbered}
use Rattle.laws_client.specs.Talks.{MayHappen}
use Rattle.imap_session.specs.Happenings.{Happening, Heard, Line, Literal, LongLine, Turned, VerdictsArePrinted, leads_to, told_line, told_of, whole_line}
use Rattle.laws_client.specs.ListTurns.{IsTag}
use Rattle.laws_client.proofs.Reading.{asked_by}
use Rattle.laws_client.proofs.Tags.{Tagged, read_tagged}
use Rattle.laws_client.proofs.Talking.{happening_follows, happening_keeps}
use Rattle.laws_client.specs.Clients.{Asked, IsRightAbout, asked, answered, hears, reads_on}
use Rattle.imap_session.proofs.Barring.{refuses}
use Rattle.imap_session.specs.declared.texts.ResponseText.{ResponseText}
use Rattle.laws_client.proofs.Barred.{asked_has, line_case, login_asks, refused_turn}
use Rattle.laws_client.specs.Sizes.{HasShortTexts}
use Rattle.laws_client.specs.HouseClients.{HasSmallNumbers}
use Rattle.laws_client.specs.RecordTurns.{Stands, StandsStill, TurnIsKnown}
use Rattle.laws_client.specs.Views.{view_of}
use Rattle.laws_client.proofs.RecordEntering.{closes_right, entering_right, not_entered_right, not_left_right, reads_right, selected_known, still_right, tagged_has}
use Rattle.laws_client.proofs.Folders.{idle_folders, line_folders, verdict_folders}
use Rattle.laws_client.proofs.Turns.{the_turn}
use Rattle.laws_client.proofs.Moved.{Calls, hears_world}
use Rattle.laws_client.proofs.ToldAll.{HearsAll, sees_of}
use Rattle.laws_client.proofs.Parts.{HasTold, read_told}
use Rattle.laws_client.proofs.RecordWorlds.{Sound, numbered_view, sound_always}
use Rattle.imap_session.specs.declared.texts.ResponseText.TheVariants as texts
use Rattle.imap_session.specs.Texts.{response_text}
use Rattle.imap_grammar.specs.declared.command.Verb.TheVariants as verbs
use Rattle.std.proofs.lemmas.Bool.{false≢true}
use Rattle.imap_grammar.specs.Verbs.{verb_of}
use Rattle.laws_client.proofs.Commands.{may_answer}
use Rattle.laws_client.proofs.WholeLines.{unfinished_asks, IsUnfinished, turn_has, text_has}

-- ---- lines that are commands

pub may_ask : (now : Standing) (view : List ℕ) (command : Command) → Stands now → IsNumbered view → HasToldParts command → stays command ≡ true → MayAsk now view command
may_ask now view command stands numbered parts stay = record { stays = stay; numbered = numbered; names = stands.names; parts = parts }

command_known : (now : Standing) (old : List ℕ) (tag : List ℕ) (command : Command) (answers : List StoreAnswer) (turn : Turn) (new : List ℕ) (client : Option Client)
    → Stands now → IsTag tag → played tag now (on_command tag now command) answers ≡ Some turn → HearsAll old turn.events new → IsRightAbout old client
    → (stays command ≡ true → IsRightAbout new (reads_on turn.bytes client)) → IsRightAbout new (answered (asked_by tag command) turn.bytes client)
command_known now old tag (commands.Select name) answers turn new client stands t e met right more =
    entering_right tag turn.bytes new (selected_known tag now old false name answers turn new t stands.names e met)
command_known now old tag (commands.Examine name) answers turn new client stands t e met right more =
    entering_right tag turn.bytes new (selected_known tag now old true name answers turn new t stands.names e met)
command_known now old tag commands.Close answers turn new client stands t e met right more =
    closes_right tag (response_text (texts.Completed verbs.Close)) now old (λ s. not s.read_only) now.selected answers turn new client t (tagged_has tag (response_text (texts.Completed verbs.Close)) t) e met right
command_known now old tag commands.Unselect answers turn new client stands t e met right more =
    closes_right tag (response_text (texts.Completed verbs.Unselect)) now old (λ s. false) now.selected answers turn new client t (tagged_has tag (response_text (texts.Completed verbs.Unselect)) t) e met right
command_known now old tag _ answers turn new client stands t e met right more = more refl

-- a command that was refused
refused_known : (now : Standing) (old : List ℕ) (tag : List ℕ) (command : Command) (text : ResponseText) (answers : List StoreAnswer) (turn : Turn) (new : List ℕ) (client : Option Client)
    → IsTag tag → refuses text ≡ true → played tag now (says (response_text text)) answers ≡ Some turn → HearsAll old turn.events new → IsRightAbout old client → IsRightAbout new (answered (asked_by tag command) turn.bytes client)
refused_known now old tag command text answers turn new client t is e met right =
    asked_has (λ (a : Asked). IsRightAbout new (answered a turn.bytes client)) tag command (not_entered_right tag turn.bytes new (refused_turn tag text now answers turn t is e))
    (not_left_right tag text now old answers turn new client t e met right) (still_right tag text now old answers turn new client t e met right)

read_known : (now : Standing) (old : List ℕ) (r : Result (List ℕ × Command) ImapFault) (answers : List StoreAnswer) (turn : Turn) (new : List ℕ) (client : Option Client)
    → Stands now → IsNumbered old → Tagged r → HasTold r → on_read now r answers ≡ Some turn → HearsAll old turn.events new → IsRightAbout old client
    → (MayAnswer now old r → IsRightAbout new (reads_on turn.bytes client)) → IsRightAbout new (answered (asked r) turn.bytes client)
read_known now old (Ok line) answers turn new client stands numbered t told e met right more =
    line_case (IsRightAbout new (answered (asked_by line.0 line.1) turn.bytes client)) now line.0 line.1 answers turn
    (λ logs d. subst (λ (a : Asked). IsRightAbout new (answered a turn.bytes client)) (sym (login_asks now.login line.0 line.1 logs))
    (still_right line.0 (texts.Completed (verb_of line.1)) (logged_in now) old answers turn new client t d met right))
    (λ text is d. refused_known now old line.0 line.1 text answers turn new client t is d met right)
    (λ d. command_known now old line.0 line.1 answers turn new client stands t d met right (λ stay. more (may_ask now old line.1 stands numbered told stay))) e
read_known now old (Err fault) answers turn new client stands numbered t told e met right more = more tt

-- ---- turns

happening_known : (now : Standing) (old : List ℕ) (happening : Happening) (turn : Turn) (new : List ℕ) (client : Option Client) → Stands now
    → leads_to now happening ≡ Some turn → HearsAll old turn.events new → IsRightAbout old client → MayHappen now old happening → IsRightAbout new (reads_on turn.bytes client)
happening_known now old happening turn new client stands e met right may =
    reads_right old turn.bytes new client (happening_follows now old happening turn new stands.tags may e (sees_of old turn.events new met)) right

-- it stands so where it waits for no rest of a line
pub bare_stands : (now : Standing) → Stands now → Stands (without_begun now)
bare_stands now stands = record { tags = (tt, tt, stands.tags.2); names = stands.names }

-- what isn't whole yet may be answered
pub unfinished_may : (now : Standing) (view : List ℕ) (r : Result (List ℕ × Command) ImapFault) → Stands now → IsNumbered view → HasTold r → IsUnfinished now.login r → MayAnswer now view r
unfinished_may now view (Err fault) stands numbered told u = tt
unfinished_may now view (Ok said) stands numbered told u = may_ask now view said.1 stands numbered told (by now.login said.1 u)
  where
    by : (login : Option (List ℕ)) (command : Command) → wants_response login command ≡ true → stays command ≡ true
    by None command u = absurd (false≢true u)
    by (Some user) (commands.Authenticate a) u = refl
    by (Some user) _ u = absurd (false≢true u)

text_known : (now : Standing) (old : List ℕ) (line : List ℕ) (answers : List StoreAnswer) (turn : Turn) (new : List ℕ) (client : Option Client) → Stands now → IsNumbered old
    → on_text_line now line answers ≡ Some turn → HearsAll old turn.events new → IsRightAbout old client → (MayAnswer now old (read line) → IsRightAbout new (reads_on turn.bytes client))
    → IsRightAbout new (answered (asked (read line)) turn.bytes client)
text_known now old line answers turn new client stands numbered e met right more =
    text_has IsTag (λ o. o ≡ Some turn → IsRightAbout new (answered (asked (read line)) turn.bytes client)) now line answers (read_tagged line)
    (λ tag x t part lacks d. subst (λ (a : Asked). IsRightAbout new (answered a turn.bytes client)) (sym (unfinished_asks now.login (read line) lacks)) (more (unfinished_may now old (read line) stands numbered (read_told line) lacks)))
    (λ d. read_known now old (read line) answers turn new client stands numbered (read_tagged line) (read_told line) d met right more) e

line_known : (now : Standing) (old : List ℕ) (line : List ℕ) (answers : List StoreAnswer) (turn : Turn) (new : List ℕ) (client : Option Client) → Stands now → IsNumbered old
    → turn_of now line answers ≡ Some turn → HearsAll old turn.events new → IsRightAbout old client → IsRightAbout new (hears client (told_line (whole_line now line) turn.bytes))
line_known now old line answers turn new client stands numbered e met right =
    turn_has (λ whole o. o ≡ Some turn → (MayCome whole now old → IsRightAbout new (reads_on turn.bytes client)) → IsRightAbout new (hears client (told_line whole turn.bytes))) now line answers
    (λ tag b i d more. more tt) (λ a mailbox flags date b p d more. more tt) (λ a x b part d more. more tt)
    (λ whole w d more. text_known (without_begun now) old whole answers turn new client (bare_stands now stands) numbered d met right (λ may. more (may_answer (without_begun now) now old (read whole) refl may)))
    e (λ may. happening_known now old (Line line answers) turn new client stands e met right may)

pub turn_heard : (now : Standing) (old : List ℕ) (happening : Happening) (turn : Turn) (new : List ℕ) (client : Option Client) → Stands now → IsNumbered old
    → VerdictsArePrinted happening → leads_to now happening ≡ Some turn → HearsAll old turn.events new → IsRightAbout old client → IsRightAbout new (hears client (told_of now happening turn.bytes))
turn_heard now old (Line line answers) turn new client stands numbered printed e met right = line_known now old line answers turn new client stands numbered e met right
turn_heard now old LongLine turn new client stands numbered printed e met right = happening_known now old LongLine turn new client stands e met right tt
turn_heard now old (Turned answers) turn new client stands numbered printed e met right = happening_known now old (Turned answers) turn new client stands e met right tt
turn_heard now old (Literal kept bytes) turn new client stands numbered printed e met right = happening_known now old (Literal kept bytes) turn new client stands e met right tt
turn_heard now old (Heard verdict answers) turn new client stands numbered printed e met right = happening_known now old (Heard verdict answers) turn new client stands e met right printed

-- ---- over a world

pub turn_known : (k : Config) (n : ℕ) (now : Standing) (w : World) (happening : Happening) (turn : Turn) (v : World) (client : Option Client) → HasSmallNumbers k → Sound k w → HasShortTexts v → Stands now
    → VerdictsArePrinted happening → leads_to now happening ≡ Some turn → Met (Calls k n) w turn.events v → IsRightAbout (view_of w n) client → IsRightAbout (view_of v n) (hears client (told_of now happening turn.bytes))
turn_known k n now w happening turn v client h S short stands printed e met right =
    turn_heard now (view_of w n) happening turn (view_of v n) client stands (numbered_view k w n S) printed e (hears_world k n w turn.events v h S short met) right

pub turn_is_known : TurnIsKnown
turn_is_known k events w n now happening turn v client h is short stands printed e met right =
    turn_known k n now w happening turn v client h (sound_always k events w h is) short stands printed e met right

-- ---- and the session stands as before

happening_folders : (now : Standing) (happening : Happening) (turn : Turn) → leads_to now happening ≡ Some turn → turn.standing.folders ≡ now.folders
happening_folders now (Line line answers) turn e = line_folders now line answers turn e
happening_folders now LongLine turn e = ap (λ (t : Turn). t.standing.folders) (sym (ap (the_turn turn) e))
happening_folders now (Turned answers) turn e = idle_folders now.selected (is_idling now) now answers turn e
happening_folders now (Literal kept bytes) turn e = ap (λ (t : Turn). t.standing.folders) (sym (ap (the_turn turn) e))
happening_folders now (Heard verdict answers) turn e = verdict_folders now verdict answers turn e

pub stands_still : StandsStill
stands_still now happening turn stands e = record {
  tags = happening_keeps now [] happening turn stands.tags e;
  names = subst (λ (folders : List Folder). AreNames folders) (sym (happening_folders now happening turn e)) stands.names;
}
