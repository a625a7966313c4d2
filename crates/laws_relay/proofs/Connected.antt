-- A connection goes on, call by call.
use Rattle.std.proofs.Common.{◌≡◌, ℕ, Bool, List, [], ◌∷◌, ◌++◌, length, map, refl, ap, ap₂, sym, subst, ◌∙◌, append_assoc, append-nil, arith}
use Rattle.std.specs.Prelude.{codes}
use Rattle.std.proofs.lemmas.List.{map-append}
use Rattle.delivery_token.specs.declared.Verdict.{Verdict}
use Rattle.envelope.specs.Names.{Directory, marked}
use Rattle.line_io.specs.Wire.{IsCut, joined, wire_lines}
use Rattle.line_io.specs.inner.WireLaws.{cut_none, wire_join, wire_joined}
use Rattle.lmtp_machine.specs.declared.reply.Reply.{Reply}
use Rattle.lmtp_machine.specs.declared.reply.Reply.TheVariants.{Greeting}
use Rattle.lmtp_machine.specs.Dialogue.{wire, Phase, Waiting, Setting, Standing, Submission, Event, Opened, Line, Starved, Answered, Shut, Turn, dialogue, fresh, on_event, on_verdicts, verdict_reply}
use Rattle.lmtp_machine.specs.Conversation.{Conversation, EachMayBeHeard, Heard, MayHear, ◌⨾◌, led_by}
use Rattle.lmtp_machine.specs.Conversation as conversation
use Rattle.lmtp_machine.proofs.Pieces.{cut-append}
use Rattle.laws_relay.specs.Fates.{MayHappen, answers_in, answers_of, lines_in, lines_of}
use Rattle.laws_relay.specs.Moments.{Moment, EachMomentMayHappen, dialogue_over, events_of}
use Rattle.laws_relay.specs.Connections.{Begins, Concludes, HasCome, ShutsDown, TakesBytes, TellsVerdicts}
use Rattle.laws_relay.proofs.ReplyConcluding.{relays_may_forget_while_shards_are_shut}

-- ---- moments one after the other

then_assoc : (t u v : Turn) → (t ⨾ u) ⨾ v ≡ t ⨾ (u ⨾ v)
then_assoc t u v = grind (arith, append_assoc)

go_on : (setting : Setting) (directory : Directory) (s : Standing) (first more : List Moment)
    → dialogue_over setting directory s (first ++ more) ≡ dialogue_over setting directory s first ⨾ dialogue_over setting directory (dialogue_over setting directory s first).standing more
go_on setting directory s [] more = refl
go_on setting directory s (m ∷ ms) more =
    let first : Turn = on_event setting (marked m.shut directory) s m.event in
    let rest = go_on setting directory first.standing ms more in
    ap (λ (u : Turn). first ⨾ u) rest
    ∙ sym (then_assoc first (dialogue_over setting directory first.standing ms) (dialogue_over setting directory (dialogue_over setting directory first.standing ms).standing more))

may-append : (setting : Setting) (directory : Directory) (s : Standing) (first more : List Moment) → EachMomentMayHappen setting directory s first
    → EachMomentMayHappen setting directory (dialogue_over setting directory s first).standing more → EachMomentMayHappen setting directory s (first ++ more)
may-append setting directory s [] more h k = k
may-append setting directory s (m ∷ ms) more h k = (h.0, may-append setting directory (on_event setting (marked m.shut directory) s m.event).standing ms more h.1 k)

lines-append : (first more : List Event) → lines_of (first ++ more) ≡ lines_of first ++ lines_of more
lines-append [] more = refl
lines-append (e ∷ es) more = ap (λ (l : List (List ℕ)). lines_in e ++ l) (lines-append es more) ∙ sym (append_assoc (lines_in e) (lines_of es) (lines_of more))

answers-append : (first more : List Event) → answers_of (first ++ more) ≡ answers_of first ++ answers_of more
answers-append [] more = refl
answers-append (e ∷ es) more = ap (λ (l : List (List Verdict)). answers_in e ++ l) (answers-append es more) ∙ sym (append_assoc (answers_in e) (answers_of es) (answers_of more))

-- ---- events while the same shards are shut

abbrev pub moments_at : List Bool → List Event → List Moment
moments_at shut [] = []
moments_at shut (e ∷ es) = record { shut = shut; event = e } ∷ moments_at shut es

pub events_at : (shut : List Bool) (events : List Event) → events_of (moments_at shut events) ≡ events
events_at shut [] = refl
events_at shut (e ∷ es) = ap (λ (l : List Event). e ∷ l) (events_at shut es)

dialogue_at : (setting : Setting) (directory : Directory) (shut : List Bool) (s : Standing) (events : List Event)
    → dialogue_over setting directory s (moments_at shut events) ≡ dialogue setting (marked shut directory) s events
dialogue_at setting directory shut s [] = refl
dialogue_at setting directory shut s (e ∷ es) =
    let first : Turn = on_event setting (marked shut directory) s e in
    ap (λ (u : Turn). first ⨾ u) (dialogue_at setting directory shut first.standing es)

may_happen : (phase : Phase) (event : Event) → MayHear phase event → MayHappen phase event
may_happen phase Opened h = h
may_happen phase (Line line) h = h
may_happen phase Starved h = h
may_happen phase (Answered verdicts) h = absurd h
may_happen phase Shut h = absurd h

may_at : (setting : Setting) (directory : Directory) (shut : List Bool) (s : Standing) (events : List Event) → EachMayBeHeard setting (marked shut directory) s events
    → EachMomentMayHappen setting directory s (moments_at shut events)
may_at setting directory shut s [] h = tt
may_at setting directory shut s (e ∷ es) h = (may_happen s.phase e h.0, may_at setting directory shut (on_event setting (marked shut directory) s e).standing es h.1)

heard_lines : {lines : List (List ℕ)} {events : List Event} → Heard lines events → lines_of events ≡ lines
heard_lines conversation.none = refl
heard_lines (conversation.line l h) = ap (λ (ls : List (List ℕ)). l ∷ ls) (heard_lines h)
heard_lines (conversation.starved h) = ap (λ (ls : List (List ℕ)). codes "." ∷ ls) (heard_lines h)

heard_silent : {lines : List (List ℕ)} {events : List Event} → Heard lines events → answers_of events ≡ []
heard_silent conversation.none = refl
heard_silent (conversation.line l h) = heard_silent h
heard_silent (conversation.starved h) = heard_silent h

-- ---- a connection

pub begins : Begins
begins setting directory = record { moments = []; may = tt; cut = cut_none; stands = refl; said_is = refl; submitted_is = refl; told_is = refl }

-- moments more, all at once
comes : (setting : Setting) (directory : Directory) (taken more : List ℕ) (said replies : List Reply) (submitted submissions : List Submission) (told answers : List (List Verdict)) (before after : Conversation)
    → (h : HasCome setting directory taken said submitted told before) → (moments : List Moment) → EachMomentMayHappen setting directory before.standing moments
    → IsCut (taken ++ more) (lines_of (events_of h.moments) ++ lines_of (events_of moments)) after.unfinished
    → (dialogue_over setting directory before.standing moments).standing ≡ after.standing
    → (dialogue_over setting directory before.standing moments).replies ≡ replies
    → (dialogue_over setting directory before.standing moments).submissions ≡ submissions
    → answers_of (events_of moments) ≡ answers
    → HasCome setting directory (taken ++ more) (said ++ replies) (submitted ++ submissions) (told ++ answers) after
comes setting directory taken more said replies submitted submissions told answers before after h moments may cut stands r s a =
    let whole = go_on setting directory fresh h.moments moments in
    let events : events_of (h.moments ++ moments) ≡ events_of h.moments ++ events_of moments = map-append (λ (m : Moment). m.event) h.moments moments in
    record {
      moments = h.moments ++ moments;
      may = may-append setting directory fresh h.moments moments h.may (subst (λ (t : Standing). EachMomentMayHappen setting directory t moments) (sym h.stands) may);
      cut = subst (λ (ls : List (List ℕ)). IsCut (taken ++ more) ls after.unfinished) (sym (ap lines_of events ∙ lines-append (events_of h.moments) (events_of moments))) cut;
      stands = ap (λ (t : Turn). t.standing) whole ∙ ap (λ (t : Standing). (dialogue_over setting directory t moments).standing) h.stands ∙ stands;
      said_is = ap (λ (t : Turn). t.replies) whole
          ∙ ap₂ (λ (x y : List Reply). x ++ y) h.said_is (ap (λ (t : Standing). (dialogue_over setting directory t moments).replies) h.stands ∙ r);
      submitted_is = ap (λ (t : Turn). t.submissions) whole
          ∙ ap₂ (λ (x y : List Submission). x ++ y) h.submitted_is (ap (λ (t : Standing). (dialogue_over setting directory t moments).submissions) h.stands ∙ s);
      told_is = ap answers_of events ∙ answers-append (events_of h.moments) (events_of moments) ∙ ap₂ (λ (x y : List (List Verdict)). x ++ y) h.told_is a;
    }

pub takes_bytes : TakesBytes
takes_bytes setting directory taken said submitted told before after h shut more t l =
    let moments : List Moment = moments_at shut l.events in
    let lines : lines_of (events_of moments) ≡ l.lines = ap lines_of (events_at shut l.events) ∙ heard_lines l.heard in
    let same : dialogue_over setting directory before.standing moments ≡ t = dialogue_at setting directory shut before.standing l.events ∙ sym l.turns in
    let both = comes setting directory taken more said t.replies submitted t.submissions told [] before after h moments (may_at setting directory shut before.standing l.events l.may)
    (subst (λ (ls : List (List ℕ)). IsCut (taken ++ more) (lines_of (events_of h.moments) ++ ls) after.unfinished) (sym lines)
    (cut-append [] taken before.unfinished more after.unfinished (lines_of (events_of h.moments)) l.lines h.cut l.cut))
    (ap (λ (u : Turn). u.standing) same ∙ sym l.stands) (ap (λ (u : Turn). u.replies) same) (ap (λ (u : Turn). u.submissions) same)
    (ap answers_of (events_at shut l.events) ∙ heard_silent l.heard) in
    subst (λ (vs : List (List Verdict)). HasCome setting directory (taken ++ more) (said ++ t.replies) (submitted ++ t.submissions) vs after) (append-nil told) both

-- an event that is no line
comes_by : (setting : Setting) (directory : Directory) (taken : List ℕ) (said : List Reply) (submitted : List Submission) (told : List (List Verdict)) (c : Conversation)
    → HasCome setting directory taken said submitted told c → (shut : List Bool) (event : Event) → MayHappen c.standing.phase event → lines_in event ≡ []
    → (on_event setting (marked shut directory) c.standing event).submissions ≡ []
    → HasCome setting directory taken (said ++ (on_event setting (marked shut directory) c.standing event).replies) submitted (told ++ answers_in event) (led_by setting (marked shut directory) c event)
comes_by setting directory taken said submitted told c h shut event may silent quiet =
    let moments : List Moment = record { shut = shut; event = event } ∷ [] in
    let t : Turn = on_event setting (marked shut directory) c.standing event in
    let after : Conversation = led_by setting (marked shut directory) c event in
    let ls : List (List ℕ) = lines_of (events_of h.moments) in
    let lines : ls ++ lines_of (events_of moments) ≡ ls = ap (λ (l : List (List ℕ)). ls ++ (l ++ [])) silent ∙ append-nil ls in
    let both = comes setting directory taken [] said t.replies submitted [] told (answers_in event) c after h moments (may, tt)
    (subst (λ (l : List (List ℕ)). IsCut (taken ++ []) l c.unfinished) (sym lines) (subst (λ (b : List ℕ). IsCut b ls c.unfinished) (sym (append-nil taken)) h.cut))
    refl (append-nil t.replies) (append-nil t.submissions ∙ quiet) (append-nil (answers_in event)) in
    subst (λ (b : List ℕ). HasCome setting directory b (said ++ t.replies) submitted (told ++ answers_in event) after) (append-nil taken)
    (subst (λ (ss : List Submission). HasCome setting directory (taken ++ []) (said ++ t.replies) ss (told ++ answers_in event) after) (append-nil submitted) both)

-- verdicts where they are awaited
awaited_said : (phase : Phase) (n count : ℕ) (verdicts : List Verdict) → phase ≡ Waiting count → (on_verdicts phase n verdicts).replies ≡ map verdict_reply verdicts
awaited_said phase n count verdicts e = ap (λ (p : Phase). (on_verdicts p n verdicts).replies) e

awaited_quiet : (phase : Phase) (n count : ℕ) (verdicts : List Verdict) → phase ≡ Waiting count → (on_verdicts phase n verdicts).submissions ≡ []
awaited_quiet phase n count verdicts e = ap (λ (p : Phase). (on_verdicts p n verdicts).submissions) e

pub tells_verdicts : TellsVerdicts
tells_verdicts setting directory taken said submitted told c h shut verdicts e =
    let after : Conversation = led_by setting (marked shut directory) c (Answered verdicts) in
    subst (λ (rs : List Reply). HasCome setting directory taken (said ++ rs) submitted (told ++ verdicts ∷ []) after) (awaited_said c.standing.phase c.standing.submitted (length verdicts) verdicts e)
    (comes_by setting directory taken said submitted told c h shut (Answered verdicts) e refl (awaited_quiet c.standing.phase c.standing.submitted (length verdicts) verdicts e))

pub shuts_down : ShutsDown
shuts_down setting directory taken said submitted told c h shut l =
    let after : Conversation = led_by setting (marked shut directory) c Shut in
    let t : Turn = on_event setting (marked shut directory) c.standing Shut in
    subst (λ (vs : List (List Verdict)). HasCome setting directory taken (said ++ t.replies) submitted vs after) (append-nil told)
    (comes_by setting directory taken said submitted told c h shut Shut l refl refl)

-- ---- what the relay may conclude

lines_before : (taken waiting rest : List ℕ) (lines : List (List ℕ)) → IsCut taken lines rest → wire_lines (taken ++ waiting) ≡ lines ++ wire_lines (rest ++ waiting)
lines_before taken waiting rest lines cut =
    let whole = wire_joined lines cut.each in
    ap (λ (l : List ℕ). wire_lines (l ++ waiting)) cut.whole
    ∙ ap wire_lines (append_assoc (joined lines) rest waiting)
    ∙ (wire_join (joined lines) (rest ++ waiting) whole.1).0
    ∙ ap (λ (ls : List (List ℕ)). ls ++ wire_lines (rest ++ waiting)) whole.0

pub concludes : Concludes
concludes host setting directory taken said submitted told c i h waiting heard unheard e =
    let t : Turn = dialogue_over setting directory fresh h.moments in
    let sent : List ℕ = taken ++ waiting in
    let known = relays_may_forget_while_shards_are_shut host setting directory h.moments (wire_lines (c.unfinished ++ waiting)) sent heard unheard i h.may
    (lines_before taken waiting c.unfinished (lines_of (events_of h.moments)) h.cut) (e ∙ ap (λ (rs : List Reply). wire host (Greeting ∷ rs)) (sym h.said_is)) in
    record {
      fates = known.fates;
      each = known.each;
      submissions_are = known.submissions_are ∙ h.submitted_is;
      answers_are = known.answers_are ∙ h.told_is;
      stored = known.stored;
      tells = known.tells;
    }
