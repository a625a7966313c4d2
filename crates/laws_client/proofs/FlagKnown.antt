-- A turn of a session, and its whole life, as they tell its client flags.
use Rattle.std.proofs.Common.{◌≡◌, ℕ, true, false, List, [], ◌∷◌, ◌++◌, refl, sym, subst, ap}
use Rattle.std.specs.Prelude.{Option, Some, None, Result, Ok, Err, not}
use Rattle.world.specs.World.{Config, World}
use Rattle.imap_grammar.specs.Reading.{read}
use Rattle.imap_grammar.specs.declared.command.Command.{Command}
use Rattle.imap_grammar.specs.declared.command.Command.TheVariants as commands
use Rattle.imap_grammar.specs.declared.command.ImapFault.{ImapFault}
use Rattle.imap_session.specs.Exchange.{Answer as StoreAnswer, Standing, Turn, may_send, played}
use Rattle.imap_session.specs.Commands.{logged_in, on_command, on_read, says, turn_of, turn_of_long_line, with_bytes, on_text_line, without_begun}
use Rattle.imap_session.specs.Store.{Met}
use Rattle.laws_client.specs.Client.{Client}
use Rattle.laws_client.specs.Commands.{MayAnswer, stays, MayCome}
use Rattle.laws_client.specs.Fetches.{IsNumbered}
use Rattle.laws_client.specs.Talks.{MayHappen}
use Rattle.imap_session.specs.Happenings.{Happening, Heard, Line, Literal, LongLine, Told, Turned, VerdictsArePrinted, leads_to, told_line, told_of, whole_line}
use Rattle.laws_client.specs.ListTurns.{AreTags, IsTag}
use Rattle.laws_client.proofs.Reading.{asked_by}
use Rattle.laws_client.proofs.Commands.{long_line_tells_nothing, may_answer}
use Rattle.laws_client.proofs.Tags.{Tagged, read_tagged}
use Rattle.laws_client.proofs.Talking.{kept_is_tag}
use Rattle.laws_client.proofs.Turns.{the_turn}
use Rattle.imap_session.proofs.Barring.{refuses}
use Rattle.imap_session.specs.declared.texts.ResponseText.{ResponseText}
use Rattle.laws_client.proofs.Barred.{asked_has, line_case, login_asks, refused_turn}
use Rattle.laws_client.specs.Clients.{Asked, answered, asked, hears, hears_all, reads_on}
use Rattle.laws_client.specs.HouseClients.{comes, turns, others}
use Rattle.laws_client.specs.HouseClients.{Lives}
use Rattle.laws_client.specs.Sizes.{HasShortTexts}
use Rattle.laws_client.specs.HouseClients.{HasSmallNumbers}
use Rattle.laws_client.specs.RecordTurns.{Stands}
use Rattle.laws_client.proofs.Boxes.{box_goes}
use Rattle.laws_client.proofs.RecordEntering.{tagged_has}
use Rattle.laws_client.proofs.RecordKnown.{may_ask, stands_still, bare_stands, unfinished_may}
use Rattle.laws_client.proofs.Living.{hears_last}
use Rattle.laws_client.proofs.Moved.{Calls, hears_world, short_before, short_met, sound_met, sound_step}
use Rattle.laws_client.proofs.Names.{goes_extends}
use Rattle.laws_client.proofs.Parts.{HasTold, read_told}
use Rattle.laws_client.proofs.RecordWorlds.{Sound, numbered_view, sound_always}
use Rattle.laws_client.specs.Flags.{Point, counted}
use Rattle.laws_client.specs.FlagTurns.{LeadsFlags}
use Rattle.laws_client.specs.Views.{view_of}
use Rattle.laws_client.proofs.FlagMoments.{SeesAllMoments, at_moments}
use Rattle.laws_client.proofs.ToldAll.{HearsAll}
use Rattle.laws_client.specs.Worlds.{LivesTellFlags, TurnsTellFlags}
use Rattle.laws_client.specs.HouseClients.{point_of}
use Rattle.laws_client.specs.Flags.{IsRightOnFlags}
use Rattle.laws_client.proofs.FlagEntering.{closes_right, not_entered_right, not_left_right, reads_right, selects_right, still_right}
use Rattle.laws_client.proofs.Idling.{idle_tells}
use Rattle.laws_client.proofs.Saying.{answer_tells, verdict_tells}
use Rattle.laws_client.proofs.Turning.{leaves, rests_in}
use Rattle.laws_client.proofs.FlagWorlds.{counted_of, others_flags, sees_all_flags}
use Rattle.imap_session.specs.declared.texts.ResponseText.TheVariants as texts
use Rattle.imap_session.specs.Texts.{response_text}
use Rattle.imap_grammar.specs.declared.command.Verb.TheVariants as verbs
use Rattle.imap_grammar.specs.Verbs.{verb_of}
use Rattle.laws_client.proofs.WholeLines.{unfinished_asks, turn_has, text_has}

-- ---- what may happen

long_tells : (now : Standing) (p : Point) (turn : Turn) (q : Point) → AreTags now → Some (turn_of_long_line now) ≡ Some turn → SeesAllMoments p turn.events q → LeadsFlags p turn.bytes q
long_tells now p turn q k e sees =
    let same : turn_of_long_line now ≡ turn = ap (the_turn turn) e in
    let s : q ≡ p = subst (λ (t : Turn). SeesAllMoments p t.events q) (sym same) sees in
    subst (λ (t : Turn). LeadsFlags p t.bytes q) same
    (subst (λ (r : Point). LeadsFlags p (turn_of_long_line now).bytes r) (sym s) (leaves p (turn_of_long_line now).bytes (long_line_tells_nothing now (kept_is_tag now.mailing.begun now.idling k.1 k.0))))

happening_tells : (now : Standing) (p : Point) (happening : Happening) (turn : Turn) (q : Point) → AreTags now → MayHappen now (counted p) happening → leads_to now happening ≡ Some turn
    → SeesAllMoments p turn.events q → LeadsFlags p turn.bytes q
happening_tells now p (Line line answers) turn q k may e sees = answer_tells now line p answers turn q (kept_is_tag now.mailing.begun now.idling k.1 k.0, may) e sees
happening_tells now p LongLine turn q k may e sees = long_tells now p turn q k e sees
happening_tells now p (Turned answers) turn q k may e sees = idle_tells now p answers turn q e sees
happening_tells now p (Literal kept bytes) turn q k may e sees = rests_in p (may_send (with_bytes kept bytes now)) (with_bytes kept bytes now) turn q e sees
happening_tells now p (Heard verdict answers) turn q k may e sees = verdict_tells now verdict p answers turn q k.2 may e sees

command_flags : (now : Standing) (p : Point) (tag : List ℕ) (command : Command) (answers : List StoreAnswer) (turn : Turn) (q : Point) (client : Option Client)
    → Stands now → IsTag tag → played tag now (on_command tag now command) answers ≡ Some turn → SeesAllMoments p turn.events q → HearsAll (counted p) turn.events (counted q) → IsRightOnFlags p client
    → (stays command ≡ true → IsRightOnFlags q (reads_on turn.bytes client)) → IsRightOnFlags q (answered (asked_by tag command) turn.bytes client)
command_flags now p tag (commands.Select name) answers turn q client stands t e sees met right more =
    selects_right tag now (counted p) false name answers turn q t stands.names e met
command_flags now p tag (commands.Examine name) answers turn q client stands t e sees met right more =
    selects_right tag now (counted p) true name answers turn q t stands.names e met
command_flags now p tag commands.Close answers turn q client stands t e sees met right more =
    closes_right tag (response_text (texts.Completed verbs.Close)) now p (λ s. not s.read_only) now.selected answers turn q client t (tagged_has tag (response_text (texts.Completed verbs.Close)) t) e sees right
command_flags now p tag commands.Unselect answers turn q client stands t e sees met right more =
    closes_right tag (response_text (texts.Completed verbs.Unselect)) now p (λ s. false) now.selected answers turn q client t (tagged_has tag (response_text (texts.Completed verbs.Unselect)) t) e sees right
command_flags now p tag _ answers turn q client stands t e sees met right more = more refl

-- a command that was refused
refused_flags : (now : Standing) (p : Point) (tag : List ℕ) (command : Command) (text : ResponseText) (answers : List StoreAnswer) (turn : Turn) (q : Point) (client : Option Client)
    → IsTag tag → refuses text ≡ true → played tag now (says (response_text text)) answers ≡ Some turn → SeesAllMoments p turn.events q → IsRightOnFlags p client → IsRightOnFlags q (answered (asked_by tag command) turn.bytes client)
refused_flags now p tag command text answers turn q client t is e sees right =
    asked_has (λ (a : Asked). IsRightOnFlags q (answered a turn.bytes client)) tag command (not_entered_right tag turn.bytes q (refused_turn tag text now answers turn t is e))
    (not_left_right tag text now p answers turn q client t e sees right) (still_right tag text now p answers turn q client t e sees right)

read_flags : (now : Standing) (p : Point) (r : Result (List ℕ × Command) ImapFault) (answers : List StoreAnswer) (turn : Turn) (q : Point) (client : Option Client)
    → Stands now → IsNumbered (counted p) → Tagged r → HasTold r → on_read now r answers ≡ Some turn → SeesAllMoments p turn.events q → HearsAll (counted p) turn.events (counted q) → IsRightOnFlags p client
    → (MayAnswer now (counted p) r → IsRightOnFlags q (reads_on turn.bytes client)) → IsRightOnFlags q (answered (asked r) turn.bytes client)
read_flags now p (Ok line) answers turn q client stands numbered t told e sees met right more =
    line_case (IsRightOnFlags q (answered (asked_by line.0 line.1) turn.bytes client)) now line.0 line.1 answers turn
    (λ logs d. subst (λ (a : Asked). IsRightOnFlags q (answered a turn.bytes client)) (sym (login_asks now.login line.0 line.1 logs))
    (still_right line.0 (texts.Completed (verb_of line.1)) (logged_in now) p answers turn q client t d sees right))
    (λ text is d. refused_flags now p line.0 line.1 text answers turn q client t is d sees right)
    (λ d. command_flags now p line.0 line.1 answers turn q client stands t d sees met right (λ stay. more (may_ask now (counted p) line.1 stands numbered told stay))) e
read_flags now p (Err fault) answers turn q client stands numbered t told e sees met right more = more tt

-- ---- turns

happening_flags : (now : Standing) (p : Point) (happening : Happening) (turn : Turn) (q : Point) (client : Option Client) → Stands now
    → leads_to now happening ≡ Some turn → SeesAllMoments p turn.events q → HearsAll (counted p) turn.events (counted q) → IsRightOnFlags p client → MayHappen now (counted p) happening → IsRightOnFlags q (reads_on turn.bytes client)
happening_flags now p happening turn q client stands e sees met right may =
    reads_right p turn.bytes q client (happening_tells now p happening turn q stands.tags may e sees) right

text_flags : (now : Standing) (p : Point) (line : List ℕ) (answers : List StoreAnswer) (turn : Turn) (q : Point) (client : Option Client) → Stands now → IsNumbered (counted p)
    → on_text_line now line answers ≡ Some turn → SeesAllMoments p turn.events q → HearsAll (counted p) turn.events (counted q) → IsRightOnFlags p client
    → (MayAnswer now (counted p) (read line) → IsRightOnFlags q (reads_on turn.bytes client)) → IsRightOnFlags q (answered (asked (read line)) turn.bytes client)
text_flags now p line answers turn q client stands numbered e sees met right more =
    text_has IsTag (λ o. o ≡ Some turn → IsRightOnFlags q (answered (asked (read line)) turn.bytes client)) now line answers (read_tagged line)
    (λ tag x t part lacks d. subst (λ (a : Asked). IsRightOnFlags q (answered a turn.bytes client)) (sym (unfinished_asks now.login (read line) lacks)) (more (unfinished_may now (counted p) (read line) stands numbered (read_told line) lacks)))
    (λ d. read_flags now p (read line) answers turn q client stands numbered (read_tagged line) (read_told line) d sees met right more) e

line_flags : (now : Standing) (p : Point) (line : List ℕ) (answers : List StoreAnswer) (turn : Turn) (q : Point) (client : Option Client) → Stands now → IsNumbered (counted p)
    → turn_of now line answers ≡ Some turn → SeesAllMoments p turn.events q → HearsAll (counted p) turn.events (counted q) → IsRightOnFlags p client → IsRightOnFlags q (hears client (told_line (whole_line now line) turn.bytes))
line_flags now p line answers turn q client stands numbered e sees met right =
    turn_has (λ whole o. o ≡ Some turn → (MayCome whole now (counted p) → IsRightOnFlags q (reads_on turn.bytes client)) → IsRightOnFlags q (hears client (told_line whole turn.bytes))) now line answers
    (λ tag b i d more. more tt) (λ a mailbox flags date b m d more. more tt) (λ a x b part d more. more tt)
    (λ whole w d more. text_flags (without_begun now) p whole answers turn q client (bare_stands now stands) numbered d sees met right (λ may. more (may_answer (without_begun now) now (counted p) (read whole) refl may)))
    e (λ may. happening_flags now p (Line line answers) turn q client stands e sees met right may)

pub turn_moments : (now : Standing) (p : Point) (happening : Happening) (turn : Turn) (q : Point) (client : Option Client) → Stands now → IsNumbered (counted p)
    → VerdictsArePrinted happening → leads_to now happening ≡ Some turn → SeesAllMoments p turn.events q → HearsAll (counted p) turn.events (counted q) → IsRightOnFlags p client → IsRightOnFlags q (hears client (told_of now happening turn.bytes))
turn_moments now p (Line line answers) turn q client stands numbered printed e sees met right = line_flags now p line answers turn q client stands numbered e sees met right
turn_moments now p LongLine turn q client stands numbered printed e sees met right = happening_flags now p LongLine turn q client stands e sees met right tt
turn_moments now p (Turned answers) turn q client stands numbered printed e sees met right = happening_flags now p (Turned answers) turn q client stands e sees met right tt
turn_moments now p (Literal kept bytes) turn q client stands numbered printed e sees met right = happening_flags now p (Literal kept bytes) turn q client stands e sees met right tt
turn_moments now p (Heard verdict answers) turn q client stands numbered printed e sees met right = happening_flags now p (Heard verdict answers) turn q client stands e sees met right printed

-- ---- over a world

turn_flags : (k : Config) (n : ℕ) (now : Standing) (w : World) (happening : Happening) (turn : Turn) (v : World) (client : Option Client) → HasSmallNumbers k → Sound k w → HasShortTexts v → Stands now
    → VerdictsArePrinted happening → leads_to now happening ≡ Some turn → Met (Calls k n) w turn.events v → IsRightOnFlags (point_of w n) client → IsRightOnFlags (point_of v n) (hears client (told_of now happening turn.bytes))
turn_flags k n now w happening turn v client h S short stands printed e met right =
    turn_moments now (point_of w n) happening turn (point_of v n) client stands (subst IsNumbered (counted_of w n) (numbered_view k w n S)) printed e
    (at_moments (point_of w n) turn.events (point_of v n) (sees_all_flags k n w turn.events v h S short met))
    (subst (λ (new : List ℕ). HearsAll (counted (point_of w n)) turn.events new) (counted_of v n)
    (subst (λ (old : List ℕ). HearsAll old turn.events (view_of v n)) (counted_of w n) (hears_world k n w turn.events v h S short met)))
    right

pub turns_tell_flags : TurnsTellFlags
turns_tell_flags k events w n now happening turn v client h is short stands printed e met right =
    turn_flags k n now w happening turn v client h (sound_always k events w h is) short stands printed e met right

-- ---- a whole life

pub record KnownFlags (k : Config) (n : ℕ) (told : List Told) (now : Standing) (w : World) : Type 0 where
  pub sound : Sound k w
  pub stands : Stands now
  pub right : IsRightOnFlags (point_of w n) (hears_all None told)

-- what is known behind a turn, by what was known before it, whether the turn was due or not
pub flags_behind : (k : Config) (n : ℕ) (told : List Told) (now : Standing) (w : World) (happening : Happening) (turn : Turn) (v : World) → HasSmallNumbers k → HasShortTexts v → KnownFlags k n told now w
    → VerdictsArePrinted happening → leads_to now happening ≡ Some turn → Met (Calls k n) w turn.events v → KnownFlags k n (told ++ told_of now happening turn.bytes ∷ []) turn.standing v
flags_behind k n told now w happening turn v h short K printed e met = record {
  sound = sound_met k n w turn.events v K.sound met;
  stands = stands_still now happening turn K.stands e;
  right = subst (λ (c : Option Client). IsRightOnFlags (point_of v n) c) (sym (hears_last None told (told_of now happening turn.bytes)))
      (turn_flags k n now w happening turn v (hears_all None told) h K.sound short K.stands printed e met K.right);
}

-- the last turn comes after all that was known before it
pub lives_flags : (k : Config) (n : ℕ) (first : Standing) (began : World) {sent : List ℕ} {told : List Told} {now : Standing} {w : World} → HasSmallNumbers k → Sound k began → Stands first
    → Lives k n first began sent told now w → HasShortTexts w → KnownFlags k n told now w
lives_flags k n first began h S stands comes short = record { sound = S; stands = stands; right = tt }
lives_flags k n first began h S stands (turns {told = told} {now = now} {w = w} lives happening bytes turn v timely sent printed e met) short =
    flags_behind k n told now w happening turn v h short (lives_flags k n first began h S stands lives (short_met k n w turn.events v met short)) printed e met
lives_flags k n first began h S stands (others {told = told} {now = now} {w = w} lives event v o step) short =
    let K = lives_flags k n first began h S stands lives (short_before w v (λ m. goes_extends k (w.box m) (v.box m) (box_goes k w event v m step)) short) in record {
      sound = sound_step k w event v K.sound step;
      stands = K.stands;
      right = others_flags k w event v n (hears_all None told) K.sound.kept step o K.right;
    }

pub lives_tell_flags : LivesTellFlags
lives_tell_flags k events n first began sent told now w h is short stands lives =
    (lives_flags k n first began h (sound_always k events began h is) stands lives short).right
