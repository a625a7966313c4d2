-- Lines that were heard, one after the other, and where verdicts stand among them.
use Rattle.std.proofs.Common.{◌≡◌, ℕ, List, [], ◌∷◌, ◌++◌, length, map, refl, ap, sym, ◌∙◌, append-nil}
use Rattle.std.specs.Prelude.{codes}
use Rattle.delivery_token.specs.declared.Verdict.{Verdict}
use Rattle.envelope.specs.Names.{Directory}
use Rattle.lane_work.specs.Talk.{Judged}
use Rattle.lmtp_machine.specs.Conversation.{IsQuiet, Heard, MayHear, EachMayBeHeard}
use Rattle.lmtp_machine.specs.Conversation as heard
use Rattle.lmtp_machine.specs.Dialogue.{Waiting, Standing, Setting, Submission, Event, Line, Starved, Answered, Turn, dialogue, on_event}
use Rattle.running_house.specs.Woven.{IsHeardAs, Woven, none, line, submits}
use Rattle.running_house.proofs.WaitLaws.{message_waits, verdicts_quiet}

nil_left : {A : Type 0} (xs ys : List A) → xs ++ ys ≡ [] → xs ≡ []
nil_left [] ys e = refl
nil_left (x ∷ xs) ys e = absurd (let k : x ∷ (xs ++ ys) ≡ [] = e in cc)

nil_right : {A : Type 0} (xs ys : List A) → xs ++ ys ≡ [] → ys ≡ []
nil_right [] ys e = e
nil_right (x ∷ xs) ys e = absurd (let k : x ∷ (xs ++ ys) ≡ [] = e in cc)

-- more lines behind lines
pub woven-append : (setting : Setting) (directory : Directory) {s t u : Standing} {ls ms : List (List ℕ)} {js ks : List Judged} {es fs : List Event}
    → Woven setting directory s ls js es t → Woven setting directory t ms ks fs u → Woven setting directory s (ls ++ ms) (js ++ ks) (es ++ fs) u
woven-append setting directory none k = k
woven-append setting directory (line l event is may quiet h) k = line l event is may quiet (woven-append setting directory h k)
woven-append setting directory (submits l event message verdicts is may one many h) k = submits l event message verdicts is may one many (woven-append setting directory h k)

-- where they lead
pub woven_stands : (setting : Setting) (directory : Directory) {s t : Standing} {ls : List (List ℕ)} {js : List Judged} {es : List Event}
    → Woven setting directory s ls js es t → (dialogue setting directory s es).standing ≡ t
woven_stands setting directory none = refl
woven_stands setting directory (line l event is may quiet h) = woven_stands setting directory h
woven_stands setting directory (submits l event message verdicts is may one many h) = woven_stands setting directory h

-- what they submit was judged
pub woven_messages : (setting : Setting) (directory : Directory) {s t : Standing} {ls : List (List ℕ)} {js : List Judged} {es : List Event}
    → Woven setting directory s ls js es t → map (λ (j : Judged). j.message) js ≡ (dialogue setting directory s es).submissions
woven_messages setting directory none = refl
woven_messages setting directory {s = s} (line {judged = js} {events = es} l event is may quiet h) =
    let first : Turn = on_event setting directory s event in
    let more : Turn = dialogue setting directory first.standing es in
    let others : map (λ (j : Judged). j.message) js ≡ more.submissions = woven_messages setting directory h in
    others ∙ sym (ap (λ (x : List Submission). x ++ more.submissions) quiet)
woven_messages setting directory {s = s} (submits {judged = js} {events = es} l event message verdicts is may one many h) =
    let first : Turn = on_event setting directory s event in
    let second : Turn = on_event setting directory first.standing (Answered verdicts) in
    let more : Turn = dialogue setting directory second.standing es in
    let others : map (λ (j : Judged). j.message) js ≡ more.submissions = woven_messages setting directory h in
    let quiet : second.submissions ≡ [] = verdicts_quiet first.standing.phase first.standing.submitted verdicts in
    ap (λ (x : List Submission). message ∷ x) (others ∙ sym (ap (λ (x : List Submission). x ++ more.submissions) quiet))
    ∙ sym (ap (λ (x : List Submission). x ++ (second.submissions ++ more.submissions)) one)

-- lines that submit nothing
pub quiet_woven : (setting : Setting) (directory : Directory) (s : Standing) {ls : List (List ℕ)} {es : List Event} → Heard ls es → EachMayBeHeard setting directory s es
    → (dialogue setting directory s es).submissions ≡ [] → Woven setting directory s ls [] es (dialogue setting directory s es).standing
quiet_woven setting directory s heard.none may quiet = none
quiet_woven setting directory s (heard.line {events = es} l h) may quiet =
    let first : Turn = on_event setting directory s (Line l) in
    let more : Turn = dialogue setting directory first.standing es in
    line l (Line l) refl may.0 (nil_left first.submissions more.submissions quiet) (quiet_woven setting directory first.standing h may.1 (nil_right first.submissions more.submissions quiet))
quiet_woven setting directory s (heard.starved {events = es} h) may quiet =
    let first : Turn = on_event setting directory s Starved in
    let more : Turn = dialogue setting directory first.standing es in
    line (codes ".") Starved refl may.0 (nil_left first.submissions more.submissions quiet) (quiet_woven setting directory first.standing h may.1 (nil_right first.submissions more.submissions quiet))

-- ---- lines the last of which submits a message

pub record Submitted (setting : Setting) (directory : Directory) (s : Standing) (ls : List (List ℕ)) (es : List Event) (message : Submission) (verdicts : List Verdict) : Type 0 where
  pub woven : Woven setting directory s ls (record { message = message; verdicts = verdicts } ∷ []) (es ++ Answered verdicts ∷ [])
      (on_event setting directory (dialogue setting directory s es).standing (Answered verdicts)).standing
  pub count : ℕ
  pub waits : (dialogue setting directory s es).standing.phase ≡ Waiting count

abbrev QuietBefore : Setting → Directory → Standing → List Event → Type 0
QuietBefore setting directory s es = (events : List Event) (last : Event) → es ≡ events ++ last ∷ [] → IsQuiet (dialogue setting directory s events)

last_event : (e : Event) (es : List Event) → (events : List Event) × (last : Event) × (e ∷ es ≡ events ++ last ∷ [])
last_event e [] = ([], e, refl)
last_event e (f ∷ fs) = let r = last_event f fs in (e ∷ r.0, r.1, ap (λ (x : List Event). e ∷ x) r.2)

-- the line is the last
at_last : (setting : Setting) (directory : Directory) (message : Submission) (verdicts : List Verdict) → length verdicts ≡ length message.keys
    → (s : Standing) (l : List ℕ) (event : Event) → IsHeardAs l event → MayHear s.phase event
    → (on_event setting directory s event).submissions ++ [] ≡ message ∷ [] → Submitted setting directory s (l ∷ []) (event ∷ []) message verdicts
at_last setting directory message verdicts many s l event is may one =
    let first : Turn = on_event setting directory s event in
    let only : first.submissions ≡ message ∷ [] = sym (append-nil first.submissions) ∙ one in
    record { woven = submits l event message verdicts is may only many none; count = length message.keys; waits = message_waits setting directory s event message only }

-- it isn't
before_last : (setting : Setting) (directory : Directory) (message : Submission) (verdicts : List Verdict)
    → (s : Standing) (l : List ℕ) (event : Event) → IsHeardAs l event → MayHear s.phase event
    → (ls : List (List ℕ)) (e : Event) (es : List Event)
    → (on_event setting directory s event).submissions ++ (dialogue setting directory (on_event setting directory s event).standing (e ∷ es)).submissions ≡ message ∷ []
    → QuietBefore setting directory s (event ∷ e ∷ es)
    → ((dialogue setting directory (on_event setting directory s event).standing (e ∷ es)).submissions ≡ message ∷ [] → QuietBefore setting directory (on_event setting directory s event).standing (e ∷ es)
    → Submitted setting directory (on_event setting directory s event).standing ls (e ∷ es) message verdicts)
    → Submitted setting directory s (l ∷ ls) (event ∷ e ∷ es) message verdicts
before_last setting directory message verdicts s l event is may ls e es one quiet others =
    let first : Turn = on_event setting directory s event in
    let more : Turn = dialogue setting directory first.standing (e ∷ es) in
    let k = last_event e es in
    let front : Turn = dialogue setting directory first.standing k.0 in
    let q = quiet (event ∷ k.0) k.1 (ap (λ (x : List Event). event ∷ x) k.2) in
    let none_here : first.submissions ≡ [] = nil_left first.submissions front.submissions q.1 in
    let there : more.submissions ≡ message ∷ [] = sym (ap (λ (x : List Submission). x ++ more.submissions) none_here) ∙ one in
    let r = others there (λ events last same. let p = quiet (event ∷ events) last (ap (λ (x : List Event). event ∷ x) same) in
    (nil_right first.replies (dialogue setting directory first.standing events).replies p.0, nil_right first.submissions (dialogue setting directory first.standing events).submissions p.1)) in
    record { woven = line l event is may none_here r.woven; count = r.count; waits = r.waits }

pub submitted : (setting : Setting) (directory : Directory) (message : Submission) (verdicts : List Verdict) → length verdicts ≡ length message.keys
    → (s : Standing) {ls : List (List ℕ)} {es : List Event} → Heard ls es → EachMayBeHeard setting directory s es
    → (dialogue setting directory s es).submissions ≡ message ∷ [] → QuietBefore setting directory s es → Submitted setting directory s ls es message verdicts
submitted setting directory message verdicts many s heard.none may one quiet = absurd (let k : ◌≡◌ {A = List Submission} [] (message ∷ []) = one in cc)
submitted setting directory message verdicts many s (heard.line l heard.none) may one quiet = at_last setting directory message verdicts many s l (Line l) refl may.0 one
submitted setting directory message verdicts many s (heard.line l (heard.line {lines = ls} {events = es} k h)) may one quiet =
    before_last setting directory message verdicts s l (Line l) refl may.0 (k ∷ ls) (Line k) es one quiet
    (submitted setting directory message verdicts many (on_event setting directory s (Line l)).standing (heard.line k h) may.1)
submitted setting directory message verdicts many s (heard.line l (heard.starved {lines = ls} {events = es} h)) may one quiet =
    before_last setting directory message verdicts s l (Line l) refl may.0 (codes "." ∷ ls) Starved es one quiet
    (submitted setting directory message verdicts many (on_event setting directory s (Line l)).standing (heard.starved h) may.1)
submitted setting directory message verdicts many s (heard.starved heard.none) may one quiet = at_last setting directory message verdicts many s (codes ".") Starved refl may.0 one
submitted setting directory message verdicts many s (heard.starved (heard.line {lines = ls} {events = es} k h)) may one quiet =
    before_last setting directory message verdicts s (codes ".") Starved refl may.0 (k ∷ ls) (Line k) es one quiet
    (submitted setting directory message verdicts many (on_event setting directory s Starved).standing (heard.line k h) may.1)
submitted setting directory message verdicts many s (heard.starved (heard.starved {lines = ls} {events = es} h)) may one quiet =
    before_last setting directory message verdicts s (codes ".") Starved refl may.0 (codes "." ∷ ls) Starved es one quiet
    (submitted setting directory message verdicts many (on_event setting directory s Starved).standing (heard.starved h) may.1)
