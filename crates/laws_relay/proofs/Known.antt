-- What a relay knows behind any events is what was submitted and answered.
use Rattle.std.proofs.Common.{◌≡◌, ℕ, zero, suc, Bool, true, false, List, [], ◌∷◌, ◌++◌, length, map, take, drop, refl, ap, sym, subst, ◌∙◌, append_assoc}
use Rattle.std.specs.Prelude.{codes, ◌&&◌, if◌then◌else◌}
use Rattle.std.specs.List.{list_all}
use Rattle.std.proofs.lemmas.List.{map-append}
use Rattle.delivery_token.specs.declared.Verdict.{Verdict}
use Rattle.envelope.specs.Names.{Directory, marked}
use Rattle.envelope.specs.Values.{Null, Postmaster, To}
use Rattle.lmtp_machine.specs.declared.reply.Reply.{Reply}
use Rattle.lmtp_machine.specs.declared.reply.Reply.TheVariants.{ShuttingDown}
use Rattle.lmtp_machine.specs.Conversation.{IsListening}
use Rattle.lmtp_machine.specs.Dialogue.{Phase, Ended, Setting, Standing, Submission, Event, Opened, Line, Starved, Answered, Shut, Turn, dialogue, fresh, on_event}
use Rattle.laws_relay.specs.Handed.{is_code, Handed, Relay, Between, Begun, Sends, ask_of, handed, is_end}
use Rattle.laws_relay.specs.ReplyLaws.{last_line}
use Rattle.laws_relay.specs.Fates.{Fate, Awaited, Unheard, AreKnown, AreFarewells, EachMayHappen, HaveFates, IsSubmitted, MayHappen, all_ends, all_submitted, all_told, answers_in, answers_of, awaited, end_of, ends_in, ends_of, lines_in, lines_of, none, submitted_of, told_of, unheard}
use Rattle.laws_relay.specs.Conclusions.{MessagesAreKnown, MessagesAreKnownWhileShardsAreShut}
use Rattle.laws_relay.specs.Moments.{Moment, EachMomentMayHappen, dialogue_over, ends_over, events_of}
use Rattle.laws_relay.proofs.Asks.{IsNo, unchanged}
use Rattle.laws_relay.proofs.Turned.{Stand, At, Pends, Goes, LooksSame, begun, ended, handed_at, owed, owed_ends, ready, sends, sent_message, start, waits}
use Rattle.laws_relay.proofs.Steps.{Step, line_step, starved_step, verdicts_step}

-- ---- replies that begin and take nothing

-- the reply says that the server shuts down, and so begins and takes nothing
abbrev pub IsFarewell : List ℕ → Type 0
IsFarewell reply = IsNo reply × (is_code (codes "421") reply ≡ true)

abbrev pub AreNo : List (List ℕ) → Type 0
AreNo [] = Unit {0}
AreNo (reply ∷ replies) = IsFarewell reply × AreNo replies

take_no : (k : ℕ) (replies : List (List ℕ)) → AreNo replies → AreNo (take k replies)
take_no zero replies h = tt
take_no (suc k) [] h = tt
take_no (suc k) (reply ∷ replies) h = (h.0, take_no k replies h.1)

drop_no : (k : ℕ) (replies : List (List ℕ)) → AreNo replies → AreNo (drop k replies)
drop_no zero replies h = h
drop_no (suc k) [] h = tt
drop_no (suc k) (reply ∷ replies) h = drop_no k replies h.1

no_more : (replies : List (List ℕ)) → AreNo replies → AreFarewells replies
no_more [] h = refl
no_more (reply ∷ replies) h = ap (λ (b : Bool). b && list_all (is_code (codes "421")) replies) h.0.1 ∙ no_more replies h.1

-- by which nothing is handed over that wasn't begun
pub between_none : (sent replies : List (List ℕ)) → AreNo replies → handed Between sent replies ≡ []
between_none [] replies h = refl
between_none (line ∷ sent) [] h = refl
between_none (line ∷ sent) (reply ∷ replies) h = ap (λ (r : Relay). handed r sent replies) (unchanged (ask_of line) Between line reply h.0.0) ∙ between_none sent replies h.1

begun_none : (mail : List ℕ) (recipients sent replies : List (List ℕ)) → AreNo replies → handed (Begun mail recipients) sent replies ≡ []
begun_none mail recipients [] replies h = refl
begun_none mail recipients (line ∷ sent) [] h = refl
begun_none mail recipients (line ∷ sent) (reply ∷ replies) h =
    ap (λ (r : Relay). handed r sent replies) (unchanged (ask_of line) (Begun mail recipients) line reply h.0.0) ∙ begun_none mail recipients sent replies h.1

-- one message at most, none of whose replies is 250
pub record Ends (host : List ℕ) (directory : Directory) (messages : List Handed) : Type 0 where
  pub fates : List Fate
  pub each : HaveFates host directory messages fates
  pub closes : all_ends fates ≡ []
  pub submits : all_submitted fates ≡ []
  pub tells : all_told fates ≡ []

none_ends : (host : List ℕ) (directory : Directory) (messages : List Handed) → messages ≡ [] → Ends host directory messages
none_ends host directory messages e = record { fates = []; each = subst (λ (ms : List Handed). HaveFates host directory ms []) (sym e) none; closes = refl; submits = refl; tells = refl }

sends_end : (host : List ℕ) (directory : Directory) (mail : List ℕ) (recipients lines sent replies : List (List ℕ)) → AreNo replies → Ends host directory (handed (Sends mail recipients lines) sent replies)
sends_end host directory mail recipients lines [] replies h = none_ends host directory [] refl
sends_end host directory mail recipients lines (line ∷ sent) replies h = by (is_end line) (sends_end host directory mail recipients (lines ++ line ∷ []) sent replies h)
  where
    by : (b : Bool) → Ends host directory (handed (Sends mail recipients (lines ++ line ∷ [])) sent replies)
        → Ends host directory (if b
        then record { mail = mail; recipients = recipients; lines = lines; replies = take (length recipients) replies } ∷ handed Between sent (drop (length recipients) replies)
        else handed (Sends mail recipients (lines ++ line ∷ [])) sent replies)
    by false more = more
    by true more =
        let message : Handed = record { mail = mail; recipients = recipients; lines = lines; replies = take (length recipients) replies } in
        let others : handed Between sent (drop (length recipients) replies) ≡ [] = between_none sent (drop (length recipients) replies) (drop_no (length recipients) replies h) in
        record {
          fates = Unheard ∷ [];
          each = subst (λ (ms : List Handed). HaveFates host directory (message ∷ ms) (Unheard ∷ [])) (sym others)
              (unheard message (no_more (take (length recipients) replies) (take_no (length recipients) replies h)));
          closes = refl;
          submits = refl;
          tells = refl;
        }

relay_ends : (host : List ℕ) (directory : Directory) (relay : Relay) (sent replies : List (List ℕ)) → AreNo replies → Ends host directory (handed relay sent replies)
relay_ends host directory Between sent replies h = none_ends host directory (handed Between sent replies) (between_none sent replies h)
relay_ends host directory (Begun mail recipients) sent replies h = none_ends host directory (handed (Begun mail recipients) sent replies) (begun_none mail recipients sent replies h)
relay_ends host directory (Sends mail recipients lines) sent replies h = sends_end host directory mail recipients lines sent replies h

-- ---- where nothing more is said

-- what the relay knows beside a dialogue: with what is owed to it, and what is submitted and answered from there on
abbrev pub KnownAt : List ℕ → Directory → Stand → (sent replies : List (List ℕ)) → List (List Submission) → List Submission → List (List Verdict) → Type 0
KnownAt host directory stand sent replies ends submissions answers = AreKnown host directory (handed_at stand sent replies) (owed_ends stand ++ ends) (owed stand ++ submissions) answers

at_end_known : (host : List ℕ) (directory : Directory) (relay : Relay) (sent replies : List (List ℕ)) → AreNo replies → KnownAt host directory (At relay) sent replies [] [] []
at_end_known host directory relay sent replies h =
    let e = relay_ends host directory relay sent replies h in
    record { fates = e.fates; each = e.each; ends_are = e.closes; submissions_are = e.submits; answers_are = e.tells }

take_nil : (k : ℕ) → ◌≡◌ {A = List (List ℕ)} (take k []) []
take_nil zero = refl
take_nil (suc k) = refl

drop_nil : (k : ℕ) → ◌≡◌ {A = List (List ℕ)} (drop k []) []
drop_nil zero = refl
drop_nil (suc k) = refl

waits_known : (host : List ℕ) (directory : Directory) (mail : List ℕ) (recipients lines : List (List ℕ)) (submission : Submission) (sent : List (List ℕ))
    → IsSubmitted directory (sent_message mail recipients lines) submission → KnownAt host directory (Pends mail recipients lines submission) sent [] [] [] []
waits_known host directory mail recipients lines submission sent i =
    let message : Handed = sent_message mail recipients lines in
    let all : handed_at (Pends mail recipients lines submission) sent [] ≡ message ∷ [] =
    ap (λ (rs : List (List ℕ)). record { mail = mail; recipients = recipients; lines = lines; replies = rs } ∷ handed Between sent (drop (length recipients) [])) (take_nil (length recipients))
    ∙ ap (λ (rs : List (List ℕ)). message ∷ handed Between sent rs) (drop_nil (length recipients)) ∙ ap (λ (ms : List Handed). message ∷ ms) (between_none sent [] tt) in
    record {
      fates = Awaited submission ∷ [];
      each = subst (λ (ms : List Handed). HaveFates host directory ms (Awaited submission ∷ [])) (sym all) (awaited message submission i refl);
      ends_are = refl;
      submissions_are = refl;
      answers_are = refl;
    }

rest_known : (host : List ℕ) (directory : Directory) (phase : Phase) (stand : Stand) (sent : List (List ℕ)) → Goes directory phase stand → KnownAt host directory stand sent [] [] [] []
rest_known host directory _ _ sent start = at_end_known host directory Between sent [] tt
rest_known host directory _ _ sent ready = at_end_known host directory Between sent [] tt
rest_known host directory _ _ sent (begun {mail = mail} {recipients = recipients} s a) = at_end_known host directory (Begun mail recipients) sent [] tt
rest_known host directory _ _ sent (sends {mail = mail} {recipients = recipients} {lines = lines} s a) = at_end_known host directory (Sends mail recipients lines) sent [] tt
rest_known host directory _ _ sent (waits {mail = mail} {recipients = recipients} {lines = lines} {submission = submission} i m) =
    waits_known host directory mail recipients lines submission sent i
rest_known host directory _ _ sent (ended {relay = relay}) = at_end_known host directory relay sent [] tt

-- and where the server says that it shuts down
shut_known : (host : List ℕ) (directory : Directory) (phase : Phase) (stand : Stand) (sent : List (List ℕ)) (t : Turn) → Goes directory phase stand → IsListening phase
    → KnownAt host directory stand sent (last_line host ShuttingDown ∷ []) (ends_in phase Shut t ++ []) [] []
shut_known host directory _ _ sent t start l = at_end_known host directory Between sent _ (((refl, refl), refl), tt)
shut_known host directory _ _ sent t ready l = at_end_known host directory Between sent _ (((refl, refl), refl), tt)
shut_known host directory _ _ sent t (begun {mail = mail} {recipients = recipients} s a) l = at_end_known host directory (Begun mail recipients) sent _ (((refl, refl), refl), tt)
shut_known host directory _ _ sent t (sends {mail = mail} {recipients = recipients} {lines = lines} s a) l = at_end_known host directory (Sends mail recipients lines) sent _ (((refl, refl), refl), tt)
shut_known host directory _ _ sent t (waits i m) l = absurd l
shut_known host directory _ _ sent t ended l = absurd l

-- ---- one event before others

submitted_append : (xs ys : List Fate) → all_submitted (xs ++ ys) ≡ all_submitted xs ++ all_submitted ys
submitted_append [] ys = refl
submitted_append (x ∷ xs) ys = ap (λ (l : List Submission). submitted_of x ++ l) (submitted_append xs ys) ∙ sym (append_assoc (submitted_of x) (all_submitted xs) (all_submitted ys))

ends_append : (xs ys : List Fate) → all_ends (xs ++ ys) ≡ all_ends xs ++ all_ends ys
ends_append [] ys = refl
ends_append (x ∷ xs) ys = ap (λ (l : List (List Submission)). end_of x ++ l) (ends_append xs ys) ∙ sym (append_assoc (end_of x) (all_ends xs) (all_ends ys))

told_append : (xs ys : List Fate) → all_told (xs ++ ys) ≡ all_told xs ++ all_told ys
told_append [] ys = refl
told_append (x ∷ xs) ys = ap (λ (l : List (List Verdict)). told_of x ++ l) (told_append xs ys) ∙ sym (append_assoc (told_of x) (all_told xs) (all_told ys))

step_known : (host : List ℕ) (directory : Directory) (stand : Stand) (heard lines left : List (List ℕ)) (told answers : List (List Verdict)) (here ends : List (List Submission)) (t : Turn) (replies : List Reply) (submissions : List Submission)
    → (s : Step host directory stand heard told here t) → KnownAt host directory s.next (lines ++ left) (map (last_line host) replies) ends submissions answers
    → KnownAt host directory stand ((heard ++ lines) ++ left) (map (last_line host) (t.replies ++ replies)) (here ++ ends) (t.submissions ++ submissions) (told ++ answers)
step_known host directory stand heard lines left told answers here ends t replies submissions s k =
    let whole : handed_at stand ((heard ++ lines) ++ left) (map (last_line host) (t.replies ++ replies)) ≡ s.messages ++ handed_at s.next (lines ++ left) (map (last_line host) replies) =
    ap (λ (l : List (List ℕ)). handed_at stand l (map (last_line host) (t.replies ++ replies))) (append_assoc heard lines left)
    ∙ ap (λ (l : List (List ℕ)). handed_at stand (heard ++ (lines ++ left)) l) (map-append (last_line host) t.replies replies)
    ∙ s.reads (lines ++ left) (map (last_line host) replies) in
    record {
      fates = s.fates ++ k.fates;
      each = subst (λ (ms : List Handed). HaveFates host directory ms (s.fates ++ k.fates)) (sym whole) (s.each _ k.fates k.each);
      ends_are = ends_append s.fates k.fates ∙ ap (λ (l : List (List Submission)). all_ends s.fates ++ l) k.ends_are
          ∙ sym (append_assoc (all_ends s.fates) (owed_ends s.next) ends) ∙ ap (λ (l : List (List Submission)). l ++ ends) (sym s.closes) ∙ append_assoc (owed_ends stand) here ends;
      submissions_are = submitted_append s.fates k.fates ∙ ap (λ (l : List Submission). all_submitted s.fates ++ l) k.submissions_are
          ∙ sym (append_assoc (all_submitted s.fates) (owed s.next) submissions) ∙ ap (λ (l : List Submission). l ++ submissions) (sym s.submits)
          ∙ append_assoc (owed stand) t.submissions submissions;
      answers_are = told_append s.fates k.fates ∙ ap (λ (l : List (List Verdict)). all_told s.fates ++ l) k.answers_are ∙ ap (λ (l : List (List Verdict)). l ++ answers) (sym s.tells);
    }

none_after : (event : Event) → MayHappen Ended event → ⊥
none_after Opened h = h
none_after (Line line) h = h
none_after Starved h = h
none_after (Answered verdicts) h = cc
none_after Shut h = h

-- ---- all events

pub known_from : (host : List ℕ) (setting : Setting) (directory : Directory) (left : List (List ℕ)) (events : List Event) (s : Standing) (stand : Stand) → Goes directory s.phase stand
    → EachMayHappen setting directory s events
    → KnownAt host directory stand (lines_of events ++ left) (map (last_line host) (dialogue setting directory s events).replies) (ends_of setting directory s events) (dialogue setting directory s events).submissions (answers_of events)
known_from host setting directory left [] s stand g may = rest_known host directory s.phase stand left g
known_from host setting directory left (Opened ∷ events) s stand g may = absurd may.0
known_from host setting directory left (Line line ∷ events) s stand g may =
    let t : Turn = on_event setting directory s (Line line) in
    let step = line_step host directory directory (λ path. refl) setting s.phase s.submitted stand line g may.0 in
    step_known host directory stand (line ∷ []) (lines_of events) left [] (answers_of events) _ _ t _ _ step (known_from host setting directory left events t.standing step.next step.goes may.1)
known_from host setting directory left (Starved ∷ events) s stand g may =
    let t : Turn = on_event setting directory s Starved in
    let step = starved_step host directory setting s.phase s.submitted stand g may.0 in
    step_known host directory stand (codes "." ∷ []) (lines_of events) left [] (answers_of events) _ _ t _ _ step (known_from host setting directory left events t.standing step.next step.goes may.1)
known_from host setting directory left (Answered verdicts ∷ events) s stand g may =
    let t : Turn = on_event setting directory s (Answered verdicts) in
    let step = verdicts_step host directory s.phase s.submitted stand verdicts g may.0 in
    step_known host directory stand [] (lines_of events) left (verdicts ∷ []) (answers_of events) _ _ t _ _ step (known_from host setting directory left events t.standing step.next step.goes may.1)
known_from host setting directory left (Shut ∷ []) s stand g may = shut_known host directory s.phase stand left _ g may.0
known_from host setting directory left (Shut ∷ event ∷ events) s stand g may = absurd (none_after event may.1.0)

pub messages_are_known : MessagesAreKnown
messages_are_known host setting directory events left may = known_from host setting directory left events fresh (At Between) start may

-- ---- while shards are shut

marked_looks : (shut : List Bool) (directory : Directory) → LooksSame directory (marked shut directory)
marked_looks shut directory Null = refl
marked_looks shut directory Postmaster = refl
marked_looks shut directory (To address) = refl

moment_known : (host : List ℕ) (setting : Setting) (directory : Directory) (left : List (List ℕ)) (shut : List Bool) (event : Event) (moments : List Moment) (s : Standing) (stand : Stand)
    → Goes directory s.phase stand → MayHappen s.phase event → EachMomentMayHappen setting directory (on_event setting (marked shut directory) s event).standing moments
    → ((next : Stand) → Goes directory (on_event setting (marked shut directory) s event).standing.phase next
    → KnownAt host directory next (lines_of (events_of moments) ++ left) (map (last_line host) (dialogue_over setting directory (on_event setting (marked shut directory) s event).standing moments).replies)
    (ends_over setting directory (on_event setting (marked shut directory) s event).standing moments)
    (dialogue_over setting directory (on_event setting (marked shut directory) s event).standing moments).submissions (answers_of (events_of moments)))
    → KnownAt host directory stand ((lines_in event ++ lines_of (events_of moments)) ++ left)
    (map (last_line host) ((on_event setting (marked shut directory) s event).replies ++ (dialogue_over setting directory (on_event setting (marked shut directory) s event).standing moments).replies))
    (ends_in s.phase event (on_event setting (marked shut directory) s event) ++ ends_over setting directory (on_event setting (marked shut directory) s event).standing moments)
    ((on_event setting (marked shut directory) s event).submissions ++ (dialogue_over setting directory (on_event setting (marked shut directory) s event).standing moments).submissions)
    (answers_in event ++ answers_of (events_of moments))
moment_known host setting directory left shut Opened moments s stand g may each again = absurd may
moment_known host setting directory left shut (Line line) moments s stand g may each again =
    let step = line_step host directory (marked shut directory) (marked_looks shut directory) setting s.phase s.submitted stand line g may in
    step_known host directory stand (line ∷ []) (lines_of (events_of moments)) left [] (answers_of (events_of moments)) _ _ (on_event setting (marked shut directory) s (Line line)) _ _ step (again step.next step.goes)
moment_known host setting directory left shut Starved moments s stand g may each again =
    let step = starved_step host directory setting s.phase s.submitted stand g may in
    step_known host directory stand (codes "." ∷ []) (lines_of (events_of moments)) left [] (answers_of (events_of moments)) _ _ (on_event setting (marked shut directory) s Starved) _ _ step (again step.next step.goes)
moment_known host setting directory left shut (Answered verdicts) moments s stand g may each again =
    let step = verdicts_step host directory s.phase s.submitted stand verdicts g may in
    step_known host directory stand [] (lines_of (events_of moments)) left (verdicts ∷ []) (answers_of (events_of moments)) _ _ (on_event setting (marked shut directory) s (Answered verdicts)) _ _ step (again step.next step.goes)
moment_known host setting directory left shut Shut [] s stand g may each again = shut_known host directory s.phase stand left _ g may
moment_known host setting directory left shut Shut (moment ∷ moments) s stand g may each again = absurd (none_after moment.event each.0)

pub known_over : (host : List ℕ) (setting : Setting) (directory : Directory) (left : List (List ℕ)) (moments : List Moment) (s : Standing) (stand : Stand) → Goes directory s.phase stand
    → EachMomentMayHappen setting directory s moments
    → KnownAt host directory stand (lines_of (events_of moments) ++ left) (map (last_line host) (dialogue_over setting directory s moments).replies)
    (ends_over setting directory s moments) (dialogue_over setting directory s moments).submissions (answers_of (events_of moments))
known_over host setting directory left [] s stand g may = rest_known host directory s.phase stand left g
known_over host setting directory left (moment ∷ moments) s stand g may =
    moment_known host setting directory left moment.shut moment.event moments s stand g may.0 may.1
    (λ next go. known_over host setting directory left moments (on_event setting (marked moment.shut directory) s moment.event).standing next go may.1)

pub messages_are_known_while_shards_are_shut : MessagesAreKnownWhileShardsAreShut
messages_are_known_while_shards_are_shut host setting directory moments left may = known_over host setting directory left moments fresh (At Between) start may
