-- Where all that was pending was shown, what the session counts is what is there.
use Rattle.std.proofs.Common.{zero, suc, ◌≡◌, ◌⊎◌, inl, inr, ℕ, ◌+◌, ◌-◌, ◌≤◌, Bool, true, false, List, [], ◌∷◌, ◌++◌, length, take, drop, refl, sym, subst, ap, ◌∙◌, arith, append-nil}
use Rattle.std.specs.Prelude.{Option, Some, None, IfSome, Ok, if◌then◌else◌}
use Rattle.std.proofs.Math.Seq.{take-length}
use Rattle.std.proofs.lemmas.Bool.{false≢true}
use Rattle.std.proofs.lemmas.List.{length-drop}
use Rattle.std.proofs.lemmas.Option.{none-some}
use Rattle.shard_queue.specs.Lane.{set_at}
use Rattle.shard_queue.proofs.AtLaws.{set_at-same}
use Rattle.change_ring.specs.declared.change.Change.{Change}
use Rattle.change_ring.specs.Log.{replay, view_at}
use Rattle.change_ring.proofs.LogLaws.{uids-rows_after}
use Rattle.mailbox.specs.declared.clients.MailFault.{MailFault}
use Rattle.cursor_set.specs.Lines.{lines}
use Rattle.world.specs.World.{Config, Session, World, pending, shows}
use Rattle.world.specs.Law.{IsShown}
use Rattle.world.proofs.Kept.{Kept, SessionOk}
use Rattle.world.proofs.Always.{kept_always, kept_step}
use Rattle.imap_grammar.specs.Reading.{is_done, read}
use Rattle.imap_grammar.specs.declared.command.Command.TheVariants as commands
use Rattle.imap_session.specs.declared.standing.After.{After}
use Rattle.imap_session.specs.declared.standing.After.TheVariants.{Go}
use Rattle.imap_session.specs.declared.standing.Selected.{Selected}
use Rattle.imap_session.specs.Exchange.{Answer, Fed, Refused, PendingLiteral, Event as Happened, Done, Feed, Standing, Turn, having, played, refusal_text, refused, saying}
use Rattle.imap_session.specs.Commands.{completed, on_idle_line, says, showing, turn_behind, turn_of, turn_while, unlimited, without_begun}
use Rattle.imap_session.specs.Store.{Met}
use Rattle.house.specs.Meets.{Meets}
use Rattle.laws_client.specs.ListTurns.{IsTag}
use Rattle.laws_client.proofs.Tags.{tags_are_tags}
use Rattle.laws_client.specs.Clients.{has_ok}
use Rattle.laws_client.specs.Current.{DoneMakesCurrent, FeedsMakeCurrent, IsCurrent, NoopMakesCurrent}
use Rattle.laws_client.specs.Views.{messages_of, view_in, view_of}
use Rattle.laws_client.proofs.RecordEntering.{mapped, only_done, only_refused, refusal_has_none}
use Rattle.laws_client.proofs.Moved.{Calls, Moved, moved, rested, stepped}
use Rattle.imap_session.specs.declared.texts.ResponseText.TheVariants as texts
use Rattle.imap_session.specs.Texts.{response_text}
use Rattle.imap_grammar.specs.declared.command.Verb.TheVariants as verbs
use Rattle.laws_client.proofs.Barred.{line_case, login_shows_none, refused_turn, shown_waits}
use Rattle.imap_session.specs.Happenings.{whole_line}
use Rattle.laws_client.proofs.WholeLines.{said_turn}

abbrev pub the_session : Session → Option Session → Session
the_session d None = d
the_session d (Some s) = s

-- a cursor at the end of its log
at_end : (w : World) (n : ℕ) (s : Session) → w.session n ≡ Some s → s.cursor ≡ length (w.box s.mailbox).log → view_of w n ≡ messages_of (w.box s.mailbox)
at_end w n s is end =
    let log : List Change = (w.box s.mailbox).log in
    ap (view_in w) is ∙ ap (view_at log) end ∙ ap (replay []) (take-length log) ∙ sym (uids-rows_after [] log)

take_all : (n : ℕ) (xs : List Change) → length xs ≤ n → take n xs ≡ xs
take_all zero [] h = refl
take_all zero (x ∷ xs) h = absurd (omega arith)
take_all (suc n) [] h = refl
take_all (suc n) (x ∷ xs) h = ap (λ ys. x ∷ ys) (take_all n xs (omega (arith, h)))

pub all_shown : (c limit : ℕ) (log : List Change) → c ≤ length log → length log ≤ limit → c + length (take limit (drop c log)) ≡ length log
all_shown c limit log within few =
    let e : length (drop c log) ≡ length log - c = length-drop c log in
    let whole : length (take limit (drop c log)) ≡ length (drop c log) = ap length (take_all limit (drop c log) (omega (arith, few, e))) in
    omega (arith, within, few, e, whole)

-- where nothing is pending the session counts all that is there
pub all_counted : (k : Config) (w : World) (n : ℕ) (s : Session) → Kept k w → w.session n ≡ Some s → pending (w.box s.mailbox) s ≡ [] → view_of w n ≡ messages_of (w.box s.mailbox)
all_counted k w n s K is none =
    let log : List Change = (w.box s.mailbox).log in
    let ok : IsShown log s = subst (λ (o : Option Session). SessionOk w.box o) is (K.sessions n) in
    let long : length (pending (w.box s.mailbox) s) ≡ length log - s.cursor = length-drop s.cursor log in
    at_end w n s is (omega (arith, ok.within, ap length none, long))

pub fed_current : (k : Config) (w : World) (n : ℕ) (met : List ℕ) (changes : List Change) (v : World) → Kept k w → Meets k n w (Feed unlimited) (Fed met changes) v → IsCurrent v n
fed_current k w n met changes v K (step, (s, is, (D, shown))) t now =
    let log : List Change = (w.box s.mailbox).log in
    let some : List Change = take unlimited (pending (w.box s.mailbox) s) in
    let ok : IsShown log s = subst (λ (o : Option Session). SessionOk w.box o) is (K.sessions n) in
    let after : World = record w { box = set_at w.box s.mailbox D.mailbox; session = set_at w.session n (Some (shows s some)) } in
    let there : v.session n ≡ Some (shows s some) = ap (λ (u : World). u.session n) D.made ∙ set_at-same w.session n (Some (shows s some)) in
    let same : shows s some ≡ t = ap (the_session t) (sym there ∙ now) in
    let box : (v.box s.mailbox).log ≡ log ++ [] = ap (λ (u : World). (u.box s.mailbox).log) D.made ∙ ap (λ b. b.log) (set_at-same w.box s.mailbox D.mailbox) ∙ D.logs.log in
    let end : s.cursor + length some ≡ length (v.box s.mailbox).log =
    all_shown s.cursor unlimited log ok.within (omega (arith, (K.boxes s.mailbox).room)) ∙ ap length (sym (append-nil log)) ∙ ap length (sym box) in
    subst (λ (u : Session). view_of v n ≡ messages_of (v.box u.mailbox)) same (at_end v n (shows s some) there end)

-- ---- the calls of a turn

-- this call was for all that is pending, and was answered
abbrev pub feed_event : ℕ → List ℕ → List Change → Happened
feed_event limit met changes = record { call = Feed limit; answer = Fed met changes }

abbrev pub FedAll : Happened → Type 0
FedAll event = (met : List ℕ) × (changes : List Change) × (event ≡ feed_event unlimited met changes)

-- so was the last of these calls; where there is none, this holds
abbrev pub LastFed : Type 0 → List Happened → Type 0
LastFed P [] = P
LastFed P (event ∷ events) = LastFed (FedAll event) events

pub fed_all : (limit : ℕ) (met : List ℕ) (changes : List Change) → limit ≡ unlimited → FedAll (feed_event limit met changes)
fed_all limit met changes e = (met, changes, ap (λ (l : ℕ). feed_event l met changes) e)

pub last_weaker : (P Q : Type 0) (events : List Happened) → (P → Q) → LastFed P events → LastFed Q events
last_weaker P Q [] f h = f h
last_weaker P Q (event ∷ events) f h = h

-- all that is pending is shown, and then the last line is said, or the store refused
pub fed_or_not : (tag words : List ℕ) (how : After) (now : Standing) (answers : List Answer) (turn : Turn)
    → played tag now (Feed unlimited (Done words how)) answers ≡ Some turn → LastFed (false ≡ true) turn.events ⊎ ((fault : MailFault) × (turn.bytes ≡ refusal_text tag fault))
fed_or_not tag words how now [] turn e = absurd (none-some turn e)
fed_or_not tag words how now (Fed view changes ∷ more) turn e =
    let m = mapped (λ (x : Turn). having (Feed unlimited) (Fed view changes) (saying (lines view changes) x)) (played tag now (Done words how) more) turn e in
    let d = only_done tag words how now more m.more m.is in
    let events : turn.events ≡ feed_event unlimited view changes ∷ [] =
    ap (λ (x : Turn). x.events) (sym m.makes) ∙ ap (λ (es : List Happened). feed_event unlimited view changes ∷ es) d.events in
    inl (subst (λ (es : List Happened). LastFed (false ≡ true) es) (sym events) (view, changes, refl))
fed_or_not tag words how now (Refused fault ∷ []) turn e =
    let m = mapped (having (Feed unlimited) (Refused fault)) (Some (refused tag now fault)) turn e in
    let only = only_refused tag now fault m.more m.is in
    inr (fault, ap (λ (x : Turn). x.bytes) (sym m.makes) ∙ only.bytes)
fed_or_not tag words how now (_ ∷ more) turn e = absurd (none-some turn e)

-- and where an OK was said, it was shown
shown_fed : (tag words : List ℕ) (how : After) (now : Standing) (answers : List Answer) (turn : Turn) → IsTag tag
    → played tag now (Feed unlimited (Done words how)) answers ≡ Some turn → has_ok true tag turn.bytes ≡ true → LastFed (false ≡ true) turn.events
shown_fed tag words how now answers turn t e ok = by (fed_or_not tag words how now answers turn e)
  where
    by : LastFed (false ≡ true) turn.events ⊎ ((fault : MailFault) × (turn.bytes ≡ refusal_text tag fault)) → LastFed (false ≡ true) turn.events
    by (inl fed) = fed
    by (inr (fault, bytes)) = absurd (false≢true (sym (refusal_has_none tag fault t) ∙ ap (has_ok true tag) (sym bytes) ∙ ok))

pub noop_fed : (now : Standing) (line whole tag : List ℕ) (selected : Selected) (answers : List Answer) (turn : Turn) → now.selected ≡ Some selected → turn_of now line answers ≡ Some turn
    → whole_line now line ≡ Some whole → read whole ≡ Ok (tag, commands.Noop) → has_ok true tag turn.bytes ≡ true → LastFed (false ≡ true) turn.events
noop_fed now line whole tag selected answers turn there answered came reads ok =
    let t : IsTag tag = tags_are_tags whole tag commands.Noop reads in
    line_case (LastFed (false ≡ true) turn.events) (without_begun now) tag commands.Noop answers turn (λ logs d. absurd (false≢true (sym (login_shows_none now.login commands.Noop logs))))
    (λ text is d. absurd (false≢true (sym (refused_turn tag text (without_begun now) answers turn t is d) ∙ ok)))
    (λ d. shown_fed tag (response_text (texts.Completed verbs.Noop)) Go (without_begun now) answers turn t (subst (λ (o : Option Selected). played tag (without_begun now) (showing o (completed commands.Noop)) answers ≡ Some turn) there d) ok)
    (said_turn now line whole tag commands.Noop answers turn came reads (shown_waits now.login commands.Noop refl) answered)

pub done_fed : (now : Standing) (line tag : List ℕ) (selected : Selected) (answers : List Answer) (turn : Turn) → IfSome now.idling IsTag → now.selected ≡ Some selected → turn_of now line answers ≡ Some turn
    → now.mailing.begun ≡ None → now.idling ≡ Some tag → is_done line ≡ true → has_ok true tag turn.bytes ≡ true → LastFed (false ≡ true) turn.events
done_fed now line tag selected answers turn tags there answered begun idling done ok =
    let first : turn_while now.idling now line answers ≡ Some turn = subst (λ (o : Option PendingLiteral). turn_behind o now line answers ≡ Some turn) begun answered in
    let second : turn_while (Some tag) now line answers ≡ Some turn = subst (λ (o : Option (List ℕ)). turn_while o now line answers ≡ Some turn) idling first in
    let third : played tag (record now { idling = None }) (on_idle_line (Some selected) line) answers ≡ Some turn =
    subst (λ (o : Option Selected). played tag (record now { idling = None }) (on_idle_line o line) answers ≡ Some turn) there second in
    let fourth : played tag (record now { idling = None }) (showing (Some selected) (completed commands.Idle)) answers ≡ Some turn = awake done third in
    shown_fed tag (response_text (texts.Completed verbs.Idle)) Go (record now { idling = None }) answers turn (subst (λ (o : Option (List ℕ)). IfSome o IsTag) idling tags) fourth ok
  where
    awake : is_done line ≡ true → played tag (record now { idling = None }) (on_idle_line (Some selected) line) answers ≡ Some turn
        → played tag (record now { idling = None }) (showing (Some selected) (completed commands.Idle)) answers ≡ Some turn
    awake h e = subst (λ (b : Bool). played tag (record now { idling = None }) (if b then showing (Some selected) (completed commands.Idle) else says (response_text texts.ExpectedDone)) answers ≡ Some turn) h e

-- ---- over a world

pub kept_moved : (k : Config) (n : ℕ) (w v : World) → Moved k n w v → Kept k w → Kept k v
kept_moved k n w v (rested e) K = rw e K
kept_moved k n w v (stepped e step own short) K = kept_step k w e v K step

fed_now : (k : Config) (n : ℕ) (w : World) (event : Happened) (v : World) → Kept k w → FedAll event → Meets k n w event.call event.answer v → IsCurrent v n
fed_now k n w event v K (met, changes, is) m = fed_current k w n met changes v K (subst (λ (e : Happened). Meets k n w e.call e.answer v) is m)

pub last_current : (k : Config) (n : ℕ) (w : World) (events : List Happened) (v : World) (P : Type 0) → Kept k w → (P → IsCurrent w n) → LastFed P events → Met (Calls k n) w events v → IsCurrent v n
last_current k n w [] v P K c h met = subst (λ (u : World). IsCurrent u n) (sym met) (c h)
last_current k n w (e ∷ events) v P K c h (mid, one, more) =
    last_current k n mid events v (FedAll e) (kept_moved k n w mid (moved k n w e.call e.answer mid one) K) (λ fed. fed_now k n w e mid K fed one) h more

pub noop_makes_current : NoopMakesCurrent
noop_makes_current k events n now line whole tag w turn v is a came reads ok =
    last_current k n w turn.events v (false ≡ true) (kept_always k events w is) (λ h. absurd (false≢true h)) (noop_fed now line whole tag a.selected a.answers turn a.there a.answered came reads ok) a.met

pub done_makes_current : DoneMakesCurrent
done_makes_current k events n now line tag w turn v is a begun idling done ok =
    last_current k n w turn.events v (false ≡ true) (kept_always k events w is) (λ h. absurd (false≢true h))
    (done_fed now line tag a.selected a.answers turn a.stands.tags.0 a.there a.answered begun idling done ok) a.met

-- ---- whatever the command

last_kept : (k : Config) (w : World) (n : ℕ) (calls : List Happened) (met : List ℕ) (changes : List Change) (v : World) → Kept k w
    → Met (Calls k n) w (calls ++ record { call = Feed unlimited; answer = Fed met changes } ∷ []) v → IsCurrent v n
last_kept k w n [] met changes v K (mid, one, last) = subst (λ (u : World). IsCurrent u n) (sym last) (fed_current k w n met changes mid K one)
last_kept k w n (e ∷ calls) met changes v K (mid, one, more) = last_kept k mid n calls met changes v (kept_moved k n w mid (moved k n w e.call e.answer mid one) K) more

pub feeds_make_current : FeedsMakeCurrent
feeds_make_current k events n w calls met changes v is happened = last_kept k w n calls met changes v (kept_always k events w is) happened
