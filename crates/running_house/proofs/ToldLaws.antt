-- What the events of some lines tell: no line is dropped, and each answer stands where it is awaited.
use Rattle.std.proofs.Common.{◌≡◌, ℕ, ◌+◌, List, [], ◌∷◌, ◌++◌, length, map, refl, ap, sym, subst, ◌∙◌, arith}
use Rattle.delivery_token.specs.declared.Verdict.{Verdict}
use Rattle.envelope.specs.Names.{Directory}
use Rattle.lane_work.specs.Talk.{Judged}
use Rattle.lmtp_machine.specs.Dialogue.{Waiting, Standing, Setting, Event, Opened, Line, Starved, Answered, Shut, dialogue, on_event}
use Rattle.running_house.specs.Laws.{LinesAreTold}
use Rattle.running_house.specs.Woven.{IsHeardAs, Woven, answers_of, lines_of, none, line, submits}
use Rattle.running_house.proofs.WaitLaws.{message_waits}
use Rattle.running_house.proofs.WovenLaws.{woven_messages}

-- one line more
line_first : (l : List ℕ) (event : Event) (events : List Event) (lines : List (List ℕ)) → IsHeardAs l event → lines_of events ≡ lines → lines_of (event ∷ events) ≡ l ∷ lines
line_first l Opened events lines is e = absurd is
line_first l (Line k) events lines is e = ap (λ (x : List ℕ). x ∷ lines_of events) is ∙ ap (λ (ls : List (List ℕ)). l ∷ ls) e
line_first l Starved events lines is e = ap (λ (x : List ℕ). x ∷ lines_of events) (sym is) ∙ ap (λ (ls : List (List ℕ)). l ∷ ls) e
line_first l (Answered verdicts) events lines is e = absurd is
line_first l Shut events lines is e = absurd is

no_answer : (l : List ℕ) (event : Event) (events : List Event) → IsHeardAs l event → answers_of (event ∷ events) ≡ answers_of events
no_answer l Opened events is = absurd is
no_answer l (Line k) events is = refl
no_answer l Starved events is = refl
no_answer l (Answered verdicts) events is = absurd is
no_answer l Shut events is = absurd is

told_lines : (setting : Setting) (directory : Directory) {s t : Standing} {ls : List (List ℕ)} {js : List Judged} {es : List Event} → Woven setting directory s ls js es t → lines_of es ≡ ls
told_lines setting directory none = refl
told_lines setting directory (line {lines = ls} {events = es} l event is may quiet h) = line_first l event es ls is (told_lines setting directory h)
told_lines setting directory (submits {lines = ls} {events = es} l event message verdicts is may one many h) = line_first l event (Answered verdicts ∷ es) ls is (told_lines setting directory h)

told_length : (setting : Setting) (directory : Directory) {s t : Standing} {ls : List (List ℕ)} {js : List Judged} {es : List Event} → Woven setting directory s ls js es t
    → length es ≡ length ls + length js
told_length setting directory none = refl
told_length setting directory (line {lines = ls} {judged = js} {events = es} l event is may quiet h) =
    let n : length es ≡ length ls + length js = told_length setting directory h in omega (arith, n)
told_length setting directory (submits {lines = ls} {judged = js} {events = es} l event message verdicts is may one many h) =
    let n : length es ≡ length ls + length js = told_length setting directory h in omega (arith, n)

pub told_answers : (setting : Setting) (directory : Directory) {s t : Standing} {ls : List (List ℕ)} {js : List Judged} {es : List Event} → Woven setting directory s ls js es t
    → answers_of es ≡ map (λ (j : Judged). j.verdicts) js
told_answers setting directory none = refl
told_answers setting directory (line {events = es} l event is may quiet h) = no_answer l event es is ∙ told_answers setting directory h
told_answers setting directory (submits {events = es} l event message verdicts is may one many h) =
    no_answer l event (Answered verdicts ∷ es) is ∙ ap (λ (vs : List (List Verdict)). verdicts ∷ vs) (told_answers setting directory h)

not_heard : (l : List ℕ) (event : Event) (verdicts : List Verdict) → IsHeardAs l event → event ≡ Answered verdicts → ⊥
not_heard l event verdicts is e = subst (IsHeardAs l) e is

pub told_awaited : (setting : Setting) (directory : Directory) {s t : Standing} {ls : List (List ℕ)} {js : List Judged} {es : List Event} → Woven setting directory s ls js es t
    → (before : List Event) (verdicts : List Verdict) (after : List Event) → es ≡ before ++ Answered verdicts ∷ after → (dialogue setting directory s before).standing.phase ≡ Waiting (length verdicts)
told_awaited setting directory none [] verdicts after e = absurd (let k : ◌≡◌ {A = List Event} [] (Answered verdicts ∷ after) = e in cc)
told_awaited setting directory none (b ∷ before) verdicts after e = absurd (let k : ◌≡◌ {A = List Event} [] (b ∷ (before ++ Answered verdicts ∷ after)) = e in cc)
told_awaited setting directory (line {events = es} l event is may quiet h) [] verdicts after e =
    let k : event ∷ es ≡ Answered verdicts ∷ after = e in let same : event ≡ Answered verdicts = cc in absurd (not_heard l event verdicts is same)
told_awaited setting directory {s = s} (line {events = es} l event is may quiet h) (b ∷ before) verdicts after e =
    let k : event ∷ es ≡ b ∷ (before ++ Answered verdicts ∷ after) = e in
    let first : event ≡ b = cc in
    let others : es ≡ before ++ Answered verdicts ∷ after = cc in
    let r = told_awaited setting directory h before verdicts after others in
    subst (λ (x : Event). (dialogue setting directory s (x ∷ before)).standing.phase ≡ Waiting (length verdicts)) first r
told_awaited setting directory (submits {events = es} l event message told is may one many h) [] verdicts after e =
    let k : event ∷ Answered told ∷ es ≡ Answered verdicts ∷ after = e in let same : event ≡ Answered verdicts = cc in absurd (not_heard l event verdicts is same)
told_awaited setting directory {s = s} (submits {events = es} l event message told is may one many h) (b ∷ []) verdicts after e =
    let k : event ∷ Answered told ∷ es ≡ b ∷ Answered verdicts ∷ after = e in
    let first : event ≡ b = cc in
    let same : told ≡ verdicts = cc in
    let waits : (on_event setting directory s event).standing.phase ≡ Waiting (length verdicts) =
    message_waits setting directory s event message one ∙ ap Waiting (sym many) ∙ ap (λ (vs : List Verdict). Waiting (length vs)) same in
    subst (λ (x : Event). (on_event setting directory s x).standing.phase ≡ Waiting (length verdicts)) first waits
told_awaited setting directory {s = s} (submits {events = es} l event message told is may one many h) (b ∷ c ∷ before) verdicts after e =
    let k : event ∷ Answered told ∷ es ≡ b ∷ c ∷ (before ++ Answered verdicts ∷ after) = e in
    let first : event ≡ b = cc in
    let second : Answered told ≡ c = cc in
    let others : es ≡ before ++ Answered verdicts ∷ after = cc in
    let r = told_awaited setting directory h before verdicts after others in
    subst (λ (x : Event). (dialogue setting directory s (x ∷ c ∷ before)).standing.phase ≡ Waiting (length verdicts)) first
    (subst (λ (x : Event). (dialogue setting directory s (event ∷ x ∷ before)).standing.phase ≡ Waiting (length verdicts)) second r)

pub lines_are_told : LinesAreTold
lines_are_told setting directory s last lines judged events h = record {
  each = told_lines setting directory h;
  as_many = told_length setting directory h;
  answers = told_answers setting directory h;
  messages = woven_messages setting directory h;
  awaited = told_awaited setting directory h;
}
