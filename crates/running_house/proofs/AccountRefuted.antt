-- What the definitions refuse: a line that is dropped, an answer before its line, and the verdicts of another message.
use Rattle.std.proofs.Common.{◌≡◌, ◌≢◌, ℕ, List, [], ◌∷◌, ◌++◌, length, refl, ap, sym, ◌∙◌}
use Rattle.std.specs.Prelude.{codes}
use Rattle.delivery_token.specs.declared.Verdict.{Verdict}
use Rattle.envelope.specs.Names.{Directory}
use Rattle.envelope.specs.Reading.{read, forward_at}
use Rattle.lane_work.specs.Talk.{Judged}
use Rattle.lmtp_machine.specs.declared.reply.Reply.TheVariants.{Greeting, Okay, Bye}
use Rattle.lmtp_machine.specs.Dialogue.{Phase, Start, Waiting, Standing, Setting, Submission, Event, Opened, Line, Starved, Answered, Shut, dialogue, fresh}
use Rattle.running_house.specs.Woven.{IsHeardAs, IsWholeDialogue, Woven, answers_of, none, line, submits}
use Rattle.running_house.specs.rows.Rows.{alice, fifth}
use Rattle.running_house.proofs.ToldLaws.{told_answers, told_awaited}
use Rattle.running_house.proofs.WovenLaws.{woven_messages}

heard_first : (l : List ℕ) (event : Event) → IsHeardAs l event → codes "NOOP" ≡ l → event ≡ Line (codes "NOOP")
heard_first l Opened is e = absurd is
heard_first l (Line k) is e = ap Line (is ∙ sym e)
heard_first l Starved is e = absurd (let k : codes "NOOP" ≡ codes "." = e ∙ is in cc)
heard_first l (Answered verdicts) is e = absurd is
heard_first l Shut is e = absurd is

-- the first thing that is said behind the greeting answers NOOP
noop_first : (event : Event) (events : List Event) → event ≡ Line (codes "NOOP") → Greeting ∷ Bye ∷ [] ≡ Greeting ∷ (dialogue fifth alice fresh (event ∷ events)).replies → ⊥
unfolding read forward_at
noop_first event events first said =
    let k : Greeting ∷ Bye ∷ [] ≡ Greeting ∷ Okay ∷ (dialogue fifth alice fresh events).replies =
    said ∙ ap (λ (x : Event). Greeting ∷ (dialogue fifth alice fresh (x ∷ events)).replies) first in cc

dropped : {last : Standing} {lines : List (List ℕ)} {judged : List Judged} {events : List Event} → Woven fifth alice fresh lines judged events last → (unheard : List (List ℕ))
    → codes "NOOP" ∷ codes "QUIT" ∷ [] ≡ lines ++ unheard → Greeting ∷ Bye ∷ [] ≡ Greeting ∷ (dialogue fifth alice fresh events).replies → ⊥
dropped none unheard whole said = let k : Greeting ∷ Bye ∷ [] ≡ Greeting ∷ [] = said in cc
dropped (line {lines = ls} {events = es} l event is may quiet h) unheard whole said =
    let k : codes "NOOP" ∷ codes "QUIT" ∷ [] ≡ l ∷ (ls ++ unheard) = whole in let e : codes "NOOP" ≡ l = cc in noop_first event es (heard_first l event is e) said
dropped (submits {lines = ls} {events = es} l event message verdicts is may one many h) unheard whole said =
    let k : codes "NOOP" ∷ codes "QUIT" ∷ [] ≡ l ∷ (ls ++ unheard) = whole in let e : codes "NOOP" ≡ l = cc in noop_first event (Answered verdicts ∷ es) (heard_first l event is e) said

-- QUIT is answered, and the NOOP before it isn't
a_line_is_dropped : IsWholeDialogue fifth alice (codes "NOOP\r\nQUIT\r\n") (Greeting ∷ Bye ∷ []) [] → ⊥
a_line_is_dropped h = dropped h.woven h.unheard h.whole h.replies

-- verdicts are told before any line was heard
an_answer_comes_first : (setting : Setting) (directory : Directory) (last : Standing) (lines : List (List ℕ)) (judged : List Judged) (verdicts : List Verdict) (events : List Event)
    → Woven setting directory fresh lines judged (Answered verdicts ∷ events) last → ⊥
an_answer_comes_first setting directory last lines judged verdicts events h =
    let k : ◌≡◌ {A = Phase} Start (Waiting (length verdicts)) = told_awaited setting directory h [] verdicts events refl in cc

-- what was judged is another message than the one that was submitted
another_message : (setting : Setting) (directory : Directory) (s last : Standing) (lines : List (List ℕ)) (one : Judged) (events : List Event) (message : Submission)
    → (dialogue setting directory s events).submissions ≡ message ∷ [] → one.message ≢ message → Woven setting directory s lines (one ∷ []) events last → ⊥
another_message setting directory s last lines one events message submitted other h =
    let k : one.message ∷ [] ≡ message ∷ [] = woven_messages setting directory h ∙ submitted in other cc

-- each of two messages has the verdicts that were told of the other
verdicts_of_another : (setting : Setting) (directory : Directory) (s last : Standing) (lines : List (List ℕ)) (one two : Submission) (first second : List Verdict) (events : List Event)
    → answers_of events ≡ first ∷ second ∷ [] → first ≢ second
    → Woven setting directory s lines (record { message = one; verdicts = second } ∷ record { message = two; verdicts = first } ∷ []) events last → ⊥
verdicts_of_another setting directory s last lines one two first second events told other h =
    let k : first ∷ second ∷ [] ≡ second ∷ first ∷ [] = sym told ∙ told_answers setting directory h in other cc
