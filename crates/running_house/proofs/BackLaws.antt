-- A dialogue over whole lines, as a talk: each line is a piece with its CRLF, and what comes behind the last is one more.
use Rattle.std.proofs.Common.{◌≡◌, ◌⊎◌, inl, inr, ℕ, true, false, List, [], ◌∷◌, ◌++◌, map, refl, ap, sym, subst, ◌∙◌, append-nil, append_assoc, length, if◌then◌else◌}
use Rattle.std.specs.Prelude.{All}
use Rattle.std.proofs.lemmas.List.Elements.{All-cons, All-head, All-nil, All-tail}
use Rattle.delivery_token.specs.declared.Verdict.{Verdict}
use Rattle.dot_stuffing.specs.declared.Outcome.{Outcome}
use Rattle.dot_stuffing.specs.declared.Outcome.TheVariants as outcomes
use Rattle.envelope.specs.Names.{Directory}
use Rattle.lane_work.specs.Talk.{Judged, HasTaken, WholeTalk}
use Rattle.lane_work.specs.Talk as talk
use Rattle.line_io.specs.Wire.{IsUncut, crlf, joined, wire_rest}
use Rattle.line_io.specs.inner.WireLaws.{reading_cut, uncut_nil}
use Rattle.lmtp_machine.specs.declared.reply.Reply.{Reply}
use Rattle.lmtp_machine.specs.declared.reply.Reply.TheVariants.{Greeting}
use Rattle.lmtp_machine.specs.Conversation.{IsQuiet, Conversation, Heard, IsListening, Leads, MayHear}
use Rattle.lmtp_machine.specs.Conversation as heard
use Rattle.lmtp_machine.specs.Message.{outcome, plain}
use Rattle.lmtp_machine.specs.Dialogue.{Phase, Start, Ready, Transaction, Data, Waiting, Ended, Standing, Setting, Submission, Event, Opened, Line, Starved, Answered, Shut, Turn, turn, at_end, dialogue, fresh, is_dot, on_event, on_line, on_outcome, on_starved, on_verdicts, verdict_reply}
use Rattle.lmtp_machine.proofs.Turns.{IsGoing, line_spoken}
use Rattle.running_house.specs.Laws.{LinesAreATalk}
use Rattle.running_house.specs.Woven.{IsHeardAs, IsWholeDialogue, Woven, none, line, submits}
use Rattle.running_house.proofs.ListLaws.{all_front}
use Rattle.running_house.proofs.TalkLines.{behind_lines, said_verdicts}
use Rattle.running_house.proofs.WaitLaws.{message_waits}

-- ---- between lines no verdicts are awaited

abbrev IsOpen : Phase → Type 0
IsOpen phase = IsListening phase ⊎ (phase ≡ Ended)

-- if nothing was submitted
abbrev Opens : Turn → Type 0
Opens t = t.submissions ≡ [] → IsOpen t.standing.phase

going_open : (phase : Phase) → IsGoing phase → IsOpen phase
going_open Start g = inl tt
going_open Ready g = inl tt
going_open (Transaction sender recipients) g = inl tt
going_open (Data sender recipients lines) g = inl tt
going_open (Waiting count) g = absurd g
going_open Ended g = inr refl

outcome_opens : (setting : Setting) (n : ℕ) (sender recipients : List ℕ) (lines : List (List ℕ)) (o : Outcome) → Opens (on_outcome setting n sender recipients lines o)
outcome_opens setting n sender recipients lines outcomes.TooBig quiet = inl tt
outcome_opens setting n sender recipients lines outcomes.Nul quiet = inl tt
outcome_opens setting n sender recipients lines outcomes.NoMemory quiet = inl tt
outcome_opens setting n sender recipients lines outcomes.Ok quiet = absurd (let k : (on_outcome setting n sender recipients lines outcomes.Ok).submissions ≡ [] = quiet in cc)

line_opens : (setting : Setting) (directory : Directory) (phase : Phase) (n : ℕ) (l : List ℕ) → IsListening phase → Opens (on_line setting directory phase n l)
line_opens setting directory Start n l h = λ quiet. going_open _ (line_spoken directory Start n l tt).going
line_opens setting directory Ready n l h = λ quiet. going_open _ (line_spoken directory Ready n l tt).going
line_opens setting directory (Transaction sender recipients) n l h = λ quiet. going_open _ (line_spoken directory (Transaction sender recipients) n l tt).going
line_opens setting directory (Data sender recipients lines) n l h =
    elim (is_dot l) as (λ b. Opens (if b then at_end setting false n sender recipients lines else turn (Data sender recipients (lines ++ l ∷ [])) n [])) [
      | true ↦ outcome_opens setting n sender recipients lines (outcome setting.max_message false (plain lines))
      | false ↦ λ quiet. inl tt
    ]
line_opens setting directory (Waiting count) n l h = λ quiet. absurd h
line_opens setting directory Ended n l h = λ quiet. absurd h

starved_opens : (setting : Setting) (phase : Phase) (n : ℕ) → heard.IsInData phase → Opens (on_starved setting phase n)
starved_opens setting Start n h = λ quiet. absurd h
starved_opens setting Ready n h = λ quiet. absurd h
starved_opens setting (Transaction sender recipients) n h = λ quiet. absurd h
starved_opens setting (Data sender recipients lines) n h = outcome_opens setting n sender recipients lines (outcome setting.max_message true (plain lines))
starved_opens setting (Waiting count) n h = λ quiet. absurd h
starved_opens setting Ended n h = λ quiet. absurd h

event_opens : (setting : Setting) (directory : Directory) (s : Standing) (event : Event) → MayHear s.phase event → Opens (on_event setting directory s event)
event_opens setting directory s Opened may = λ quiet. absurd may
event_opens setting directory s (Line l) may = line_opens setting directory s.phase s.submitted l may
event_opens setting directory s Starved may = starved_opens setting s.phase s.submitted may
event_opens setting directory s (Answered verdicts) may = λ quiet. absurd may
event_opens setting directory s Shut may = λ quiet. absurd may

answered_opens : (phase : Phase) (n count : ℕ) (verdicts : List Verdict) → phase ≡ Waiting count → IsOpen (on_verdicts phase n verdicts).standing.phase
answered_opens phase n count verdicts e = subst (λ (x : Phase). IsOpen (on_verdicts x n verdicts).standing.phase) (sym e) (inl tt)

woven_opens : (setting : Setting) (directory : Directory) {s t : Standing} {ls : List (List ℕ)} {js : List Judged} {es : List Event} → Woven setting directory s ls js es t
    → IsOpen s.phase → IsOpen t.phase
woven_opens setting directory none o = o
woven_opens setting directory {s = s} (line l event is may quiet h) o = woven_opens setting directory h (event_opens setting directory s event may quiet)
woven_opens setting directory {s = s} (submits l event message verdicts is may one many h) o =
    let first : Standing = (on_event setting directory s event).standing in
    woven_opens setting directory h (answered_opens first.phase first.submitted (length message.keys) verdicts (message_waits setting directory s event message one))

-- ---- one line as a piece

-- nothing has come of the next line
abbrev between : Standing → Conversation
between s = record { standing = s; unfinished = [] }

heard_as : (l : List ℕ) (event : Event) → IsHeardAs l event → Heard (l ∷ []) (event ∷ [])
heard_as l Opened is = absurd is
heard_as l (Line k) is = subst (λ (x : List ℕ). Heard (x ∷ []) (Line k ∷ [])) is (heard.line k heard.none)
heard_as l Starved is = subst (λ (x : List ℕ). Heard (x ∷ []) (Starved ∷ [])) (sym is) (heard.starved heard.none)
heard_as l (Answered verdicts) is = absurd is
heard_as l Shut is = absurd is

one_line : (setting : Setting) (directory : Directory) (s : Standing) (l : List ℕ) (event : Event) → IsUncut l → IsHeardAs l event → MayHear s.phase event
    → Leads setting directory (between s) (l ++ crlf) (dialogue setting directory s (event ∷ [])) (between (on_event setting directory s event).standing)
one_line setting directory s l event uncut is may = record {
  lines = l ∷ [];
  events = event ∷ [];
  cut = record {
    whole = sym (append-nil (joined (l ∷ [])) ∙ append-nil (l ++ crlf));
    each = All-cons IsUncut l [] uncut (All-nil IsUncut);
    open_end = uncut_nil;
  };
  heard = heard_as l event is;
  may = (may, tt);
  turns = refl;
  stands = refl;
  behind = inr (inr refl);
}

only_first : (event : Event) (events : List Event) (last : Event) → event ∷ [] ≡ events ++ last ∷ [] → events ≡ []
only_first event [] last e = refl
only_first event (x ∷ []) last e = absurd (let k : event ∷ [] ≡ x ∷ last ∷ [] = e in cc)
only_first event (x ∷ y ∷ events) last e = absurd (let k : event ∷ [] ≡ x ∷ y ∷ (events ++ last ∷ []) = e in cc)

-- ---- lines as a talk

talk_as : (setting : Setting) (directory : Directory) (c : Conversation) {bytes bytes_there : List ℕ} {said said_there : List Reply} {judged judged_there : List Judged}
    → bytes ≡ bytes_there → said ≡ said_there → judged ≡ judged_there → HasTaken setting directory bytes said judged c → HasTaken setting directory bytes_there said_there judged_there c
talk_as setting directory c {bytes = bytes} {said = said} {said_there = said_there} {judged = judged} {judged_there = judged_there} eb es ej h =
    subst (λ (x : List ℕ). HasTaken setting directory x said_there judged_there c) eb
    (subst (λ (x : List Reply). HasTaken setting directory bytes x judged_there c) es
    (subst (λ (x : List Judged). HasTaken setting directory bytes said x c) ej h))

line_taken : (setting : Setting) (directory : Directory) (s : Standing) (bytes : List ℕ) (said : List Reply) (judged : List Judged) (l : List ℕ) (event : Event)
    → IsUncut l → IsHeardAs l event → MayHear s.phase event → (on_event setting directory s event).submissions ≡ []
    → HasTaken setting directory bytes said judged (between s)
    → HasTaken setting directory (bytes ++ (l ++ crlf)) (said ++ (on_event setting directory s event).replies) judged (between (on_event setting directory s event).standing)
line_taken setting directory s bytes said judged l event uncut is may quiet h =
    let t : Turn = dialogue setting directory s (event ∷ []) in
    let c : Conversation = between (on_event setting directory s event).standing in
    talk_as setting directory c refl (ap (λ (x : List Reply). said ++ x) (append-nil (on_event setting directory s event).replies)) refl
    (talk.goes_on (l ++ crlf) t c h (one_line setting directory s l event uncut is may) (append-nil (on_event setting directory s event).submissions ∙ quiet))

message_taken : (setting : Setting) (directory : Directory) (s : Standing) (bytes : List ℕ) (said : List Reply) (judged : List Judged) (l : List ℕ) (event : Event) (message : Submission) (verdicts : List Verdict)
    → IsUncut l → IsHeardAs l event → MayHear s.phase event → (on_event setting directory s event).submissions ≡ message ∷ [] → length verdicts ≡ length message.keys
    → HasTaken setting directory bytes said judged (between s)
    → HasTaken setting directory (bytes ++ (l ++ crlf)) ((said ++ (on_event setting directory s event).replies) ++ map verdict_reply verdicts) (judged ++ record { message = message; verdicts = verdicts } ∷ [])
    (between (on_event setting directory (on_event setting directory s event).standing (Answered verdicts)).standing)
unfolding one_line
message_taken setting directory s bytes said judged l event message verdicts uncut is may one many h =
    let first : Turn = on_event setting directory s event in
    let t : Turn = dialogue setting directory s (event ∷ []) in
    let leads = one_line setting directory s l event uncut is may in
    let quiet : (events : List Event) (last : Event) → event ∷ [] ≡ events ++ last ∷ [] → IsQuiet (dialogue setting directory s events) =
    λ events last e. subst (λ (x : List Event). IsQuiet (dialogue setting directory s x)) (sym (only_first event events last e)) (refl, refl) in
    talk_as setting directory (between (on_event setting directory first.standing (Answered verdicts)).standing) refl
    (ap (λ (x : List Reply). (said ++ x) ++ map verdict_reply verdicts) (append-nil first.replies)) refl
    (talk.submits (l ++ crlf) t (between first.standing) message verdicts h leads (append-nil first.submissions ∙ one) quiet many)

lines_taken : (setting : Setting) (directory : Directory) {s t : Standing} {ls : List (List ℕ)} {js : List Judged} {es : List Event} → Woven setting directory s ls js es t → All IsUncut ls
    → (bytes : List ℕ) (said : List Reply) (judged : List Judged) → HasTaken setting directory bytes said judged (between s)
    → HasTaken setting directory (bytes ++ joined ls) (said ++ (dialogue setting directory s es).replies) (judged ++ js) (between t)
lines_taken setting directory {s = s} none uncut bytes said judged h =
    talk_as setting directory (between s) (sym (append-nil bytes)) (sym (append-nil said)) (sym (append-nil judged)) h
lines_taken setting directory {s = s} {t = t} (line {lines = ls} {judged = js} {events = es} l event is may quiet more) uncut bytes said judged h =
    let first : Turn = on_event setting directory s event in
    let here = line_taken setting directory s bytes said judged l event (All-head IsUncut l ls uncut) is may quiet h in
    let there = lines_taken setting directory more (All-tail IsUncut l ls uncut) (bytes ++ (l ++ crlf)) (said ++ first.replies) judged here in
    talk_as setting directory (between t) (append_assoc bytes (l ++ crlf) (joined ls)) (append_assoc said first.replies (dialogue setting directory first.standing es).replies) refl there
lines_taken setting directory {s = s} {t = t} (submits {lines = ls} {judged = js} {events = es} l event message verdicts is may one many more) uncut bytes said judged h =
    let first : Turn = on_event setting directory s event in
    let second : Turn = on_event setting directory first.standing (Answered verdicts) in
    let after : List Reply = (dialogue setting directory second.standing es).replies in
    let this : Judged = record { message = message; verdicts = verdicts } in
    let here = message_taken setting directory s bytes said judged l event message verdicts (All-head IsUncut l ls uncut) is may one many h in
    let there = lines_taken setting directory more (All-tail IsUncut l ls uncut) (bytes ++ (l ++ crlf)) ((said ++ first.replies) ++ map verdict_reply verdicts) (judged ++ this ∷ []) here in
    let told : second.replies ≡ map verdict_reply verdicts =
    said_verdicts first.standing.phase first.standing.submitted (length message.keys) verdicts (message_waits setting directory s event message one) in
    talk_as setting directory (between t) (append_assoc bytes (l ++ crlf) (joined ls))
    (append_assoc (said ++ first.replies) (map verdict_reply verdicts) after ∙ append_assoc said first.replies (map verdict_reply verdicts ++ after)
    ∙ ap (λ (x : List Reply). said ++ (first.replies ++ (x ++ after))) (sym told))
    (append_assoc judged (this ∷ []) js) there

-- what comes behind the last line
rest_taken : (setting : Setting) (directory : Directory) (s : Standing) (bytes rest : List ℕ) (said : List Reply) (judged : List Judged) → IsUncut rest → IsListening s.phase
    → HasTaken setting directory bytes said judged (between s) → HasTaken setting directory (bytes ++ rest) said judged (record { standing = s; unfinished = rest })
rest_taken setting directory s bytes rest said judged uncut listens h =
    let c : Conversation = record { standing = s; unfinished = rest } in
    talk_as setting directory c refl (append-nil said) refl
    (talk.goes_on rest (dialogue setting directory s []) c h
    (record { lines = []; events = []; cut = record { whole = refl; each = All-nil IsUncut; open_end = uncut }; heard = heard.none; may = tt; turns = refl; stands = refl; behind = inl listens }) refl)

pub lines_are_a_talk : LinesAreATalk
lines_are_a_talk setting directory bytes said judged h =
    let uncut : All IsUncut (h.lines ++ h.unheard) = subst (λ (ls : List (List ℕ)). All IsUncut ls) h.whole (reading_cut bytes).each in
    let lines : HasTaken setting directory (joined h.lines) (Greeting ∷ (dialogue setting directory fresh h.events).replies) judged (between h.last) =
    lines_taken setting directory h.woven (all_front IsUncut h.lines h.unheard uncut) [] (Greeting ∷ []) [] talk.greeted in
    let so_far : HasTaken setting directory (joined h.lines) said judged (between h.last) = talk_as setting directory (between h.last) refl (sym h.replies) refl lines in
    let whole : bytes ≡ joined (h.lines ++ h.unheard) ++ wire_rest bytes = (reading_cut bytes).whole ∙ ap (λ (ls : List (List ℕ)). joined ls ++ wire_rest bytes) h.whole in
    elim h.ended [
      | inr over ↦ over_there setting directory bytes said judged h so_far over
      | inl none_left ↦ elim (woven_opens setting directory h.woven (inl tt)) [
        | inr over ↦ over_there setting directory bytes said judged h so_far over
        | inl listens ↦ record {
          taken = joined h.lines ++ wire_rest bytes;
          left = [];
          last = record { standing = h.last; unfinished = wire_rest bytes };
          whole = whole ∙ ap (λ (ls : List (List ℕ)). joined ls ++ wire_rest bytes) (ap (λ (ls : List (List ℕ)). h.lines ++ ls) none_left ∙ append-nil h.lines) ∙ sym (append-nil (joined h.lines ++ wire_rest bytes));
          talk = rest_taken setting directory h.last (joined h.lines) (wire_rest bytes) said judged (reading_cut bytes).open_end listens so_far;
          ended = inl refl;
        }
      ]
    ]
  where
    over_there : (setting : Setting) (directory : Directory) (bytes : List ℕ) (said : List Reply) (judged : List Judged) (h : IsWholeDialogue setting directory bytes said judged)
        → HasTaken setting directory (joined h.lines) said judged (between h.last) → h.last.phase ≡ Ended → WholeTalk setting directory bytes said judged
    over_there setting directory bytes said judged h so_far over = record {
      taken = joined h.lines;
      left = joined h.unheard ++ wire_rest bytes;
      last = between h.last;
      whole = behind_lines bytes h.lines h.unheard h.whole;
      talk = so_far;
      ended = inr over;
    }
