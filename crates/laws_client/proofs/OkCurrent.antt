-- After a command that shows all that is pending last, what the session counts is what is there, where it is answered OK.
use Rattle.std.proofs.Common.{◌≡◌, ℕ, ◌⊎◌, inl, inr, Bool, true, false, List, ◌∷◌, ◌++◌, take, ap, refl, subst, sym, ◌∙◌, append_assoc, []}
use Rattle.std.specs.Prelude.{Option, Some, None, Result, Ok, codes, reverse, is_some}
use Rattle.std.proofs.lemmas.Bool.{false≢true}
use Rattle.std.proofs.lemmas.List.{reverse-append}
use Rattle.change_ring.specs.declared.change.Flags.{Flags}
use Rattle.cursor_set.specs.Lines.{lines}
use Rattle.mailbox.specs.declared.clients.MailFault.{MailFault}
use Rattle.mailbox.specs.declared.clients.MailFault.TheVariants.{Stranger, Lapped, Spent, NoMemory}
use Rattle.mailbox.specs.declared.clients.Row.{Row}
use Rattle.mailbox.specs.declared.mailbox.Status.{Status}
use Rattle.world.specs.World.{Config, World}
use Rattle.world.proofs.Always.{kept_always}
use Rattle.world.proofs.Kept.{Kept}
use Rattle.imap_grammar.specs.Verbs.{verb_of}
use Rattle.imap_grammar.specs.Reading.{read}
use Rattle.imap_grammar.specs.declared.command.ImapFault.{ImapFault}
use Rattle.imap_grammar.specs.declared.command.Command.{Command}
use Rattle.imap_grammar.specs.declared.command.Command.TheVariants as commands
use Rattle.imap_session.specs.declared.standing.After.{After}
use Rattle.imap_session.specs.declared.standing.Selected.{Selected}
use Rattle.imap_session.specs.Exchange.{Call, Answer, Event, Looked, Found, Counted, Altered, Expunged, Fed, Exchange, Done, Wait, Write, Put, Enter, Look, Read, Count, Alter, Expunge, Feed, Leave, Standing, Turn, closed, played, refusal_text, refused, saying, tagged, Discard, Discarded}
use Rattle.imap_session.specs.Commands.{on_command, turn_of, says, unlimited, without_begun}
use Rattle.laws_client.specs.ListTurns.{IsTag}
use Rattle.imap_session.specs.Happenings.{Answer as Answer_to, Line, Told, told_line, told_of, whole_line}
use Rattle.laws_client.proofs.Reading.{asked_by}
use Rattle.laws_client.proofs.Tags.{tags_are_tags}
use Rattle.laws_client.specs.Current.{DoneCommandsMakeCurrent, IsAnswered, IsCurrent, ListsAreCurrent, shows_all}
use Rattle.laws_client.proofs.RecordCurrent.{FedAll, LastFed, fed_all, last_current, last_weaker}
use Rattle.laws_client.proofs.RecordEntering.{only_done, only_refused}
use Rattle.laws_client.specs.Clients.{Asked, Neither, IsRightAbout, answered, asked, hears, hears_all}
use Rattle.laws_client.specs.Clients.{IsRight}
use Rattle.laws_client.specs.Client.{Client, Known, knowing, reads}
use Rattle.laws_client.specs.Selecting.{Known_selected}
use Rattle.laws_client.proofs.Selecting.{knowing_is_selected}
use Rattle.laws_client.specs.Views.{messages_of, view_of}
use Rattle.laws_client.proofs.Living.{hears_last, known_behind, lives_known}
use Rattle.laws_client.proofs.Moved.{short_met}
use Rattle.laws_client.proofs.RecordWorlds.{sound_always}
use Rattle.imap_session.specs.declared.texts.ResponseText.TheVariants as texts
use Rattle.imap_session.specs.Texts.{response_text}
use Rattle.imap_session.specs.declared.texts.ResponseText.{ResponseText}
use Rattle.imap_grammar.specs.declared.command.Verb.{Verb}
use Rattle.imap_grammar.specs.declared.command.Verb.TheVariants as verbs
use Rattle.std.specs.Str.{bytes_eq}
use Rattle.imap_session.proofs.Barring.{refuses}
use Rattle.laws_client.proofs.Barred.{line_case, login_shows_none, shown_waits}
use Rattle.exactly_once.proofs.EachExchange.{Plays, turn_so}
use Rattle.laws_client.proofs.Turns.{closed_quiet}
use Rattle.laws_client.proofs.EachCommand.{Steps, command_so, tells_done}
use Rattle.laws_client.proofs.WholeLines.{said_turn}

-- ---- how bytes end

abbrev pub last_of : List ℕ → List ℕ
last_of bytes = take 6 (reverse bytes)

-- as `completed` and the end of its line
abbrev pub the_end : List ℕ
the_end = 10 ∷ 13 ∷ 100 ∷ 101 ∷ 116 ∷ 101 ∷ []

-- no bytes that end so end as a command that is done
abbrev pub NoEnd : List ℕ → Type 0
NoEnd text = (front : List ℕ) → last_of (front ++ text) ≡ the_end → ⊥

no_end : (text : List ℕ) → ((behind : List ℕ) → take 6 (reverse text ++ behind) ≡ last_of text) → bytes_eq (last_of text) the_end ≡ false → NoEnd text
no_end text at other front e =
    absurd (false≢true (sym other ∙ ap (λ (xs : List ℕ). bytes_eq xs the_end) (sym (at (reverse front)) ∙ sym (ap (take 6) (reverse-append front text)) ∙ e)))

-- a last line's words, which end differently
abbrev pub NotDone : List ℕ → Type 0
NotDone words = NoEnd (words ++ codes "\r\n")

-- the text ends otherwise than the tagged OK of a command
abbrev ends_apart : ResponseText → Type 0
ends_apart text = bytes_eq (last_of (response_text text ++ codes "\r\n")) the_end ≡ false

verb_not_done : (verb : Verb) → ends_apart (texts.Completed verb) → NotDone (response_text (texts.Completed verb))
verb_not_done verbs.Noop h = absurd (false≢true (sym h))
verb_not_done _ h = absurd (false≢true (sym h))

not_done : (text : ResponseText) → ends_apart text → NotDone (response_text text)
not_done (texts.Completed verb) h = verb_not_done verb h
not_done text h = no_end (response_text text ++ codes "\r\n") (λ b. refl) h

tagged_shape : (a b c d e : List ℕ) → a ++ (b ++ c ++ d ++ e) ≡ ((a ++ b) ++ c) ++ (d ++ e)
tagged_shape a b c d e = simp append_assoc

no_tagged : (tag words : List ℕ) → NotDone words → NoEnd (tagged tag words)
no_tagged tag words h front e = h ((front ++ tag) ++ codes " ") (ap last_of (sym (tagged_shape front tag (codes " ") words (codes "\r\n"))) ∙ e)

no_refusal : (tag : List ℕ) (fault : MailFault) → NoEnd (refusal_text tag fault)
no_refusal tag Stranger = no_end (refusal_text tag Stranger) (λ b. refl) refl
no_refusal tag Lapped = no_end (refusal_text tag Lapped) (λ b. refl) refl
no_refusal tag Spent = no_tagged tag (response_text texts.MailboxSpent) (not_done texts.MailboxSpent refl)
no_refusal tag NoMemory = no_tagged tag (response_text texts.OutOfMemory) (not_done texts.OutOfMemory refl)

-- ---- exchanges

-- Where a last line says that the command is done, all that was pending was shown in the last call: that was the last call before these, or it comes.
abbrev pub ShowsLast : Bool → Exchange → Type 0
ShowsLast fed (Done words how) = (fed ≡ true) ⊎ NotDone words
ShowsLast fed (Wait bytes waits) = ⊥
ShowsLast fed (Write bytes x) = ShowsLast fed x
ShowsLast fed (Put bytes x) = ShowsLast fed x
ShowsLast fed (Enter selected next) = ⊥
ShowsLast fed (Look by_uid set next) = (view : List ℕ) → ShowsLast false (next view)
ShowsLast fed (Read uid mark next) = (row : Option Row) → ShowsLast false (next row)
ShowsLast fed (Count mailbox next) = (status : Status) → ShowsLast false (next status)
ShowsLast fed (Alter uid op next) = (flags : Option Flags) → ShowsLast false (next flags)
ShowsLast fed (Expunge uids x) = ShowsLast false x
ShowsLast fed (Feed limit x) = (limit ≡ unlimited) × ShowsLast true x
ShowsLast fed (Leave remove x) = ⊥
ShowsLast fed (Discard mailbox uids x) = ShowsLast false x

never : {A : Type 0} → false ≡ true → A
never e = absurd (false≢true e)

-- it ends behind these bytes as the tagged OK of a command does
abbrev EndsDone : List ℕ → Turn → Type 0
EndsDone front turn = last_of (front ++ turn.bytes) ≡ the_end

given_up : (tag front : List ℕ) (now : Standing) (fault : MailFault) (P : Type 0) → IsTag tag → EndsDone front (refused tag now fault) → P
given_up tag front now fault P t ends =
    absurd (no_refusal tag fault front (ap (λ (b : List ℕ). last_of (front ++ b)) (sym (only_refused tag now fault (refused tag now fault) refl).bytes) ∙ ends))

done_current : (tag words : List ℕ) (how : After) (front : List ℕ) (fed : Bool) (now : Standing) → IsTag tag → (fed ≡ true) ⊎ NotDone words
    → EndsDone front (saying (tagged tag words) (closed now how)) → LastFed (fed ≡ true) (closed now how).events
done_current tag words how front fed now t (inl is) ends = subst (λ (es : List Event). LastFed (fed ≡ true) es) (sym (closed_quiet now how)) is
done_current tag words how front fed now t (inr unlike) ends =
    let d = only_done tag words how now [] (saying (tagged tag words) (closed now how)) refl in
    absurd (no_tagged tag words unlike front (ap (λ (b : List ℕ). last_of (front ++ b)) (sym d.bytes) ∙ ends))

-- behind a text
after_text : (front text : List ℕ) (s : Turn) → EndsDone front (saying text s) → EndsDone (front ++ text) s
after_text front text s ends = ap last_of (append_assoc front text s.bytes) ∙ ends

-- behind a call that shows nothing that is pending
after_call : (fed : Bool) (call : Call) (answer : Answer) (events : List Event) → LastFed (false ≡ true) events → LastFed (fed ≡ true) (record { call = call; answer = answer } ∷ events)
after_call fed call answer events is = last_weaker (false ≡ true) (FedAll (record { call = call; answer = answer })) events never is

abbrev CurrentBehind : Standing → Exchange → Turn → Type 0
CurrentBehind now x turn = (front : List ℕ) (fed : Bool) → ShowsLast fed x → EndsDone front turn → LastFed (fed ≡ true) turn.events

makes_current : (tag : List ℕ) → IsTag tag → Plays tag CurrentBehind
makes_current tag t = record {
  done = λ now words how front fed p. done_current tag words how front fed now t p;
  waits = λ now bytes w front fed p. absurd p;
  drops = λ now bytes purpose size front fed p. absurd p;
  parts = λ now bytes purpose size front fed p. absurd p;
  starves = λ now x front fed p ends. given_up tag front now NoMemory _ t ends;
  fails = λ now x call fault front fed p ends. given_up tag front now fault _ t ends;
  writes = λ now bytes x s so front fed p ends. so (front ++ bytes) fed p (after_text front bytes s ends);
  puts = λ now bytes x s so front fed p ends. so (front ++ bytes) fed p (after_text front bytes s ends);
  enters = λ now selected next a s so front fed p. absurd p;
  looks = λ now by_uid set next a s so front fed p ends. after_call fed (Look by_uid set) (Looked a) s.events (so front false (p a) ends);
  reads = λ now uid mark next a s so front fed p ends. after_call fed (Read uid mark) (Found a) s.events (so front false (p a) ends);
  counts = λ now mailbox next a s so front fed p ends. after_call fed (Count mailbox) (Counted a) s.events (so front false (p a) ends);
  alters = λ now uid op next a s so front fed p ends. after_call fed (Alter uid op) (Altered a) s.events (so front false (p a) ends);
  expunges = λ now uids x met changes gone s so front fed p ends.
      after_call fed (Expunge uids) (Expunged met changes gone) s.events (so (front ++ lines met changes) false p (after_text front (lines met changes) s ends));
  feeds = λ now limit x met changes s so front fed p ends. last_weaker (true ≡ true) (FedAll (record { call = Feed limit; answer = Fed met changes })) s.events (λ is. fed_all limit met changes p.0)
      (so (front ++ lines met changes) true p.1 (after_text front (lines met changes) s ends));
  leaves = λ now remove x gone s so front fed p. absurd p;
  discards = λ now mailbox uids x s so front fed p ends. after_call fed (Discard mailbox uids) Discarded s.events (so front false p ends);
}

ok_current : (tag front : List ℕ) (fed : Bool) (now : Standing) (x : Exchange) (answers : List Answer) (turn : Turn) → IsTag tag → ShowsLast fed x
    → played tag now x answers ≡ Some turn → last_of (front ++ turn.bytes) ≡ the_end → LastFed (fed ≡ true) turn.events
ok_current tag front fed now x answers turn t p e ends = turn_so tag CurrentBehind (makes_current tag t) now x answers turn e front fed p ends

-- ---- commands

wrong : NotDone (response_text texts.WrongState)
wrong = not_done texts.WrongState refl

other_text : (text : ResponseText) → tells_done text ≡ false → NotDone (response_text text)
other_text (texts.Completed verb) e = never (sym e)
other_text texts.SelectCompleted e = never (sym e)
other_text texts.ExamineCompleted e = never (sym e)
other_text text e = not_done text refl

last_steps : (tag : List ℕ) (now : Standing) (selected : Selected) (command : Command) → now.selected ≡ Some selected → shows_all command ≡ true → Steps tag now command (λ view. ShowsLast false)
last_steps tag now selected command there shows = record {
  told = λ view text may. inr (other_text text (may shows (ap is_some there)));
  wanted = λ view x p. p;
  shown = λ view. (refl, inl refl);
  removed = λ view uids. (refl, inl refl);
  noticed = λ view text x p. p;
  listed = λ view listing reference pattern x p. p;
  counted = λ view name items folder x is p status. p;
  looked = λ view by_uid set next p. p;
  reads = λ view uid mark next p. p;
  fetches = λ fetch is view mark uid there gone known p q. elim [ None ↦ q | Some row ↦ p ];
  alters = λ view uid op there gone p q. elim [ None ↦ q | Some flags ↦ p ];
  stores = λ by_uid view uid op there gone known p q. elim [ None ↦ q | Some flags ↦ p ];
  finds = λ search view found x p. p;
  enters = λ view read_only name off quiet. never (sym quiet ∙ shows);
  leaves = λ view remove off quiet. never (sym quiet ∙ shows);
  idles = λ view is. never (sym (ap shows_all is) ∙ shows);
  parts = λ view is. never (sym (ap shows_all is) ∙ shows);
  appends = λ view append is. never (sym (ap shows_all is) ∙ shows);
  submits = λ view copy is batch mailbox row copied. never (sym (ap shows_all is) ∙ shows);
}

pub command_last : (tag : List ℕ) (now : Standing) (selected : Selected) (command : Command) → now.selected ≡ Some selected → shows_all command ≡ true → ShowsLast false (on_command tag now command)
command_last tag now selected command there shows = command_so tag now command (λ view. ShowsLast false) (last_steps tag now selected command there shows) []

-- a command that was refused isn't done
refused_not_done : (text : ResponseText) → refuses text ≡ true → NotDone (response_text text)
refused_not_done texts.WrongState is = wrong
refused_not_done texts.UnknownCommand is = not_done texts.UnknownCommand refl
refused_not_done texts.NotOffered is = not_done texts.NotOffered refl
refused_not_done texts.InvalidArguments is = not_done texts.InvalidArguments refl
refused_not_done texts.LoginFailed is = not_done texts.LoginFailed refl
refused_not_done _ is = never is

-- ---- their answers

ends_done : (front tag : List ℕ) (verb : Verb) → last_of (front ++ tagged tag (response_text (texts.Completed verb))) ≡ the_end
ends_done front tag verb =
    let text : List ℕ = response_text (texts.Completed verb) in
    ap last_of (tagged_shape front tag (codes " ") text (codes "\r\n")) ∙ ap (take 6) (reverse-append ((front ++ tag) ++ codes " ") (text ++ codes "\r\n"))
    ∙ last_done verb (reverse ((front ++ tag) ++ codes " "))
  where
    last_done : (verb : Verb) (before : List ℕ) → take 6 (reverse (response_text (texts.Completed verb) ++ codes "\r\n") ++ before) ≡ the_end
    last_done verbs.Noop before = refl
    last_done _ before = refl

-- the last call of its turn was for all that is pending, and was answered
pub last_was_fed : (now : Standing) (line whole tag : List ℕ) (command : Command) (selected : Selected) (answers : List Answer) (turn : Turn) (front : List ℕ) → now.selected ≡ Some selected → turn_of now line answers ≡ Some turn
    → whole_line now line ≡ Some whole → read whole ≡ Ok (tag, command) → shows_all command ≡ true → turn.bytes ≡ front ++ tagged tag (response_text (texts.Completed (verb_of command))) → LastFed (false ≡ true) turn.events
last_was_fed now line whole tag command selected answers turn front there answered came reads shows bytes =
    let t : IsTag tag = tags_are_tags whole tag command reads in
    let ends : last_of turn.bytes ≡ the_end = ap last_of bytes ∙ ends_done front tag (verb_of command) in
    let bare : Standing = without_begun now in
    line_case (LastFed (false ≡ true) turn.events) bare tag command answers turn (λ logs d. never (sym (login_shows_none now.login command logs) ∙ shows))
    (λ text is d. ok_current tag [] false bare (says (response_text text)) answers turn t (inr (refused_not_done text is)) d ends)
    (λ d. ok_current tag [] false bare (on_command tag bare command) answers turn t (command_last tag bare selected command there shows) d ends)
    (said_turn now line whole tag command answers turn came reads (shown_waits now.login command shows) answered)

done_current_in : (k : Config) (n : ℕ) (now : Standing) (line whole tag : List ℕ) (command : Command) (w : World) (turn : Turn) (v : World) (front : List ℕ) → Kept k w → IsAnswered k n now line w turn v → whole_line now line ≡ Some whole → read whole ≡ Ok (tag, command)
    → shows_all command ≡ true → turn.bytes ≡ front ++ tagged tag (response_text (texts.Completed (verb_of command))) → IsCurrent v n
done_current_in k n now line whole tag command w turn v front K a came reads shows bytes =
    last_current k n w turn.events v (false ≡ true) K never (last_was_fed now line whole tag command a.selected a.answers turn front a.there a.answered came reads shows bytes) a.met

pub done_commands_make_current : DoneCommandsMakeCurrent
done_commands_make_current k events n now line whole tag command w turn v front is a came reads shows bytes = done_current_in k n now line whole tag command w turn v front (kept_always k events w is) a came reads shows bytes

-- ---- in a life

-- such a command asks for no mailbox and leaves none
pub neither_shows : (tag : List ℕ) (command : Command) → shows_all command ≡ true → asked_by tag command ≡ Neither
neither_shows tag (commands.Select name) e = absurd (false≢true e)
neither_shows tag (commands.Examine name) e = absurd (false≢true e)
neither_shows tag commands.Close e = absurd (false≢true e)
neither_shows tag commands.Unselect e = absurd (false≢true e)
neither_shows tag _ e = refl

-- a client that is right about a view has a list
pub has_list : (view : List ℕ) (client : Client) (heard : Option Client) → heard ≡ Some client → IsRightAbout view (Some client) → (list : List Known) × (heard ≡ Some (knowing (Some list))) × IsRight view list
has_list view client heard e right = (right.0, e ∙ ap (λ (c : Client). Some c) right.1, right.2)

pub lists_are_current : ListsAreCurrent
lists_are_current k events n first began sent told now w client line whole tag command answers turn v front s h is short stands lives knows answer met came reads_as shows bytes at =
    let short_w = short_met k n w turn.events v met short in
    let before = lives_known k n first began h (sound_always k events began h is) stands lives short_w in
    let after = known_behind k n told now w (Line line answers) turn v h short before tt answer met in
    let chosen : Known_selected (Some client) now = subst (λ (c : Option Client). Known_selected c now) knows (knowing_is_selected k n first began sent told now w lives) in
    let a : IsAnswered k n now line w turn v = record { selected = chosen.0; there = chosen.1; stands = before.stands; answers = answers; answered = answer; met = met } in
    let told_is : told_of now (Line line answers) turn.bytes ≡ Answer_to whole turn.bytes = ap (λ (o : Option (List ℕ)). told_line o turn.bytes) came in
    let heard : hears_all None (told ++ Answer_to whole turn.bytes ∷ []) ≡ Some (reads client turn.bytes) =
    hears_last None told (Answer_to whole turn.bytes) ∙ ap (λ (c : Option Client). hears c (Answer_to whole turn.bytes)) knows ∙ ap (λ (r : Result (List ℕ × Command) ImapFault). answered (asked r) turn.bytes (Some client)) reads_as
    ∙ ap (λ (x : Asked). answered x turn.bytes (Some client)) (neither_shows tag command shows) in
    let right : IsRightAbout (view_of v n) (hears_all None (told ++ Answer_to whole turn.bytes ∷ [])) =
    subst (λ (one : Told). IsRightAbout (view_of v n) (hears_all None (told ++ one ∷ []))) told_is after.right in
    let all : IsRightAbout (messages_of (v.box s.mailbox)) (hears_all None (told ++ Answer_to whole turn.bytes ∷ [])) = subst (λ (view : List ℕ). IsRightAbout view (hears_all None (told ++ Answer_to whole turn.bytes ∷ [])))
    (done_current_in k n now line whole tag command w turn v front before.sound.kept a came reads_as shows bytes s at) right in
    has_list (messages_of (v.box s.mailbox)) (reads client turn.bytes) (hears_all None (told ++ Answer_to whole turn.bytes ∷ [])) heard
    (subst (λ (c : Option Client). IsRightAbout (messages_of (v.box s.mailbox)) c) heard all)
