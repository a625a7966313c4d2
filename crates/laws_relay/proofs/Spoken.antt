-- A connection of a worker's account is one of which a relay may conclude.
use Rattle.std.proofs.Common.{◌≡◌, ℕ, Bool, List, [], ◌∷◌, ◌++◌, map, refl, ap, sym, subst, ◌∙◌, append_assoc}
use Rattle.std.specs.Prelude.{codes}
use Rattle.delivery_token.specs.declared.Verdict.{Verdict}
use Rattle.envelope.specs.Names.{Directory, marked}
use Rattle.lane_work.specs.Account.{setting_at}
use Rattle.lane_work.specs.Talk.{Judged}
use Rattle.line_io.specs.Wire.{wire_lines, wire_rest}
use Rattle.lmtp_machine.specs.declared.reply.Reply.{Reply}
use Rattle.lmtp_machine.specs.declared.reply.Reply.TheVariants.{Greeting}
use Rattle.lmtp_machine.specs.Conversation.{MayHear}
use Rattle.lmtp_machine.specs.Dialogue.{Phase, Setting, Standing, Event, Opened, Line, Starved, Answered, Shut, Turn, dialogue, fresh, on_event, wire}
use Rattle.running_house.specs.Laws.{LinesAreTold}
use Rattle.running_house.specs.Woven.{IsWholeDialogue, Woven, line, none, submits}
use Rattle.running_house.specs.Woven as woven
use Rattle.laws_relay.specs.Handed.{IsInLine, handed_over}
use Rattle.laws_relay.specs.Fates.{MayHappen, answers_of, lines_of}
use Rattle.laws_relay.specs.Moments.{Moment, EachMomentMayHappen, dialogue_over, events_of}
use Rattle.laws_relay.specs.Conclusions.{MayForget, RelaysMayForgetWhileShardsAreShut}
use Rattle.laws_relay.proofs.ReplyFronts.{lines_of_front}
use Rattle.laws_relay.specs.AccountLaws.{ConnectionsAreKnown}
use Rattle.laws_relay.proofs.Connected.{moments_at, events_at}

-- ---- the same lines and answers

same_lines : (events : List Event) → lines_of events ≡ woven.lines_of events
same_lines [] = refl
same_lines (Opened ∷ events) = same_lines events
same_lines (Line l ∷ events) = ap (λ (ls : List (List ℕ)). l ∷ ls) (same_lines events)
same_lines (Starved ∷ events) = ap (λ (ls : List (List ℕ)). codes "." ∷ ls) (same_lines events)
same_lines (Answered verdicts ∷ events) = same_lines events
same_lines (Shut ∷ events) = same_lines events

same_answers : (events : List Event) → answers_of events ≡ woven.answers_of events
same_answers [] = refl
same_answers (Opened ∷ events) = same_answers events
same_answers (Line l ∷ events) = same_answers events
same_answers (Starved ∷ events) = same_answers events
same_answers (Answered verdicts ∷ events) = ap (λ (vs : List (List Verdict)). verdicts ∷ vs) (same_answers events)
same_answers (Shut ∷ events) = same_answers events

-- ---- events while the same shards are shut

-- one turn before others
abbrev led : Turn → Turn → Turn
led first others = record { standing = others.standing; replies = first.replies ++ others.replies; submissions = first.submissions ++ others.submissions }

dialogue_at : (setting : Setting) (directory : Directory) (shut : List Bool) (s : Standing) (events : List Event)
    → dialogue_over setting directory s (moments_at shut events) ≡ dialogue setting (marked shut directory) s events
dialogue_at setting directory shut s [] = refl
dialogue_at setting directory shut s (e ∷ es) =
    let first : Turn = on_event setting (marked shut directory) s e in
    ap (led first) (dialogue_at setting directory shut first.standing es)

may_happen : (phase : Phase) (event : Event) → MayHear phase event → MayHappen phase event
may_happen phase Opened h = h
may_happen phase (Line l) h = h
may_happen phase Starved h = h
may_happen phase (Answered verdicts) h = absurd h
may_happen phase Shut h = absurd h

-- each line is heard where it may be, and each answer stands where it is awaited
woven_may : (told : LinesAreTold) (setting : Setting) (directory : Directory) (shut : List Bool) {s last : Standing} {lines : List (List ℕ)} {judged : List Judged} {events : List Event}
    → Woven setting (marked shut directory) s lines judged events last → EachMomentMayHappen setting directory s (moments_at shut events)
woven_may told setting directory shut none = tt
woven_may told setting directory shut {s = s} (line l event is may quiet h) = (may_happen s.phase event may, woven_may told setting directory shut h)
woven_may told setting directory shut {s = s} {last = last} (submits {lines = lines} {judged = judged} {events = events} l event message verdicts is may one many h) =
    let all : Woven setting (marked shut directory) s (l ∷ lines) (record { message = message; verdicts = verdicts } ∷ judged) (event ∷ Answered verdicts ∷ events) last =
    submits l event message verdicts is may one many h in
    let awaited = (told setting (marked shut directory) s last _ _ _ all).awaited (event ∷ []) verdicts events refl in
    (may_happen s.phase event may, (awaited, woven_may told setting directory shut h))

-- ---- a whole dialogue

dialogue_known : (forget : RelaysMayForgetWhileShardsAreShut) (told : LinesAreTold) (host : List ℕ) (setting : Setting) (directory : Directory) (shut : List Bool) (bytes : List ℕ) (said : List Reply) (judged : List Judged)
    → IsInLine host → IsWholeDialogue setting (marked shut directory) bytes said judged → (more heard unheard : List ℕ) → heard ++ unheard ≡ wire host said
    → MayForget host directory (handed_over (bytes ++ more) heard) (handed_over (bytes ++ more) (heard ++ unheard)) (map (λ (j : Judged). j.message) judged) (map (λ (j : Judged). j.verdicts) judged)
dialogue_known forget told host setting directory shut bytes said judged i d more heard unheard e =
    let moments : List Moment = moments_at shut d.events in
    let are = told setting (marked shut directory) fresh d.last d.lines judged d.events d.woven in
    let same : dialogue_over setting directory fresh moments ≡ dialogue setting (marked shut directory) fresh d.events = dialogue_at setting directory shut fresh d.events in
    let events : events_of moments ≡ d.events = events_at shut d.events in
    let lines : lines_of (events_of moments) ≡ d.lines = ap lines_of events ∙ same_lines d.events ∙ are.each in
    let left : List (List ℕ) = d.unheard ++ wire_lines (wire_rest bytes ++ more) in
    let sent : wire_lines (bytes ++ more) ≡ lines_of (events_of moments) ++ left =
    lines_of_front bytes more ∙ ap (λ (ls : List (List ℕ)). ls ++ wire_lines (wire_rest bytes ++ more)) d.whole ∙ append_assoc d.lines d.unheard (wire_lines (wire_rest bytes ++ more))
    ∙ ap (λ (ls : List (List ℕ)). ls ++ left) (sym lines) in
    let replied : heard ++ unheard ≡ wire host (Greeting ∷ (dialogue_over setting directory fresh moments).replies) =
    e ∙ ap (wire host) (d.replies ∙ ap (λ (t : Turn). Greeting ∷ t.replies) (sym same)) in
    let known = forget host setting directory moments left (bytes ++ more) heard unheard i (woven_may told setting directory shut d.woven) sent replied in
    record {
      fates = known.fates;
      each = known.each;
      submissions_are = known.submissions_are ∙ ap (λ (t : Turn). t.submissions) same ∙ sym d.messages;
      answers_are = known.answers_are ∙ ap answers_of events ∙ same_answers d.events ∙ are.answers;
      stored = known.stored;
      tells = known.tells;
    }

pub connections_of_accounts_are_known : (forget : RelaysMayForgetWhileShardsAreShut) (told : LinesAreTold) → ConnectionsAreKnown
connections_of_accounts_are_known forget told house seat serial bytes replied judged i is more heard unheard e =
    let d : IsWholeDialogue (setting_at house seat serial) (marked is.own.shut house.directory) bytes is.said judged =
    subst (λ (o : Directory). IsWholeDialogue (setting_at house seat serial) o bytes is.said judged) is.marked.same is.dialogue in
    subst (λ (all : List ℕ). MayForget house.host house.directory (handed_over (bytes ++ more) heard) (handed_over (bytes ++ more) all)
    (map (λ (j : Judged). j.message) judged) (map (λ (j : Judged). j.verdicts) judged)) e
    (dialogue_known forget told house.host (setting_at house seat serial) house.directory is.own.shut bytes is.said judged i d more heard unheard (e ∙ is.replies))
