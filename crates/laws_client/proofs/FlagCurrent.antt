-- Where nothing is pending, what a client believes of flags is what they are.
use Rattle.std.proofs.Common.{◌≡◌, ℕ, ◌+◌, ◌-◌, ◌≤◌, Bool, true, List, [], ◌∷◌, ◌++◌, length, take, refl, sym, subst, ap, ◌∙◌, arith, append-nil}
use Rattle.std.specs.Prelude.{Option, Some, None, IfSome, Ok, if◌then◌else◌}
use Rattle.std.proofs.Math.Seq.{take-length}
use Rattle.std.proofs.lemmas.Bool.{false≢true}
use Rattle.std.proofs.lemmas.List.{length-drop}
use Rattle.std.proofs.lemmas.Option.{none-some}
use Rattle.shard_queue.specs.Lane.{set_at}
use Rattle.shard_queue.proofs.AtLaws.{set_at-same}
use Rattle.change_ring.specs.declared.change.Change.{Change}
use Rattle.change_ring.specs.Log.{replay, view_at}
use Rattle.change_ring.proofs.LogLaws.{uids-rows_after}
use Rattle.cursor_set.specs.Lines.{lines}
use Rattle.world.specs.World.{Config, Session, World, pending, shows}
use Rattle.world.specs.Law.{IsShown}
use Rattle.world.proofs.Kept.{Kept, SessionOk}
use Rattle.imap_grammar.specs.Reading.{is_done, read}
use Rattle.imap_grammar.specs.declared.command.Command.TheVariants as commands
use Rattle.imap_session.specs.declared.standing.After.{After}
use Rattle.imap_session.specs.declared.standing.After.TheVariants.{Go}
use Rattle.imap_session.specs.declared.standing.Selected.{Selected}
use Rattle.imap_session.specs.Exchange.{Answer, Fed, Refused, PendingLiteral, Event as Happened, Done, Feed, Standing, Turn, having, played, refused, saying}
use Rattle.imap_session.specs.Commands.{completed, on_idle_line, says, showing, turn_behind, turn_while, unlimited, without_begun}
use Rattle.imap_session.specs.Store.{Met}
use Rattle.house.specs.Meets.{Meets}
use Rattle.imap_session.specs.Happenings.{Answer as Answer_to, Line, Told, Words, told_line, told_of, whole_in, whole_line}
use Rattle.laws_client.specs.ListTurns.{IsTag}
use Rattle.laws_client.proofs.Tags.{tags_are_tags}
use Rattle.laws_client.specs.Clients.{has_ok, hears_all}
use Rattle.laws_client.specs.Current.{IsAnswered}
use Rattle.laws_client.specs.Views.{messages_of}
use Rattle.laws_client.proofs.RecordEntering.{mapped, only_done, only_refused, refusal_has_none}
use Rattle.laws_client.proofs.Moved.{Calls, short_met}
use Rattle.laws_client.proofs.RecordWorlds.{sound_always}
use Rattle.laws_client.proofs.RecordCurrent.{all_shown, the_session}
use Rattle.laws_client.proofs.Each.{each_weaker}
use Rattle.laws_client.specs.Clients.{Each}
use Rattle.laws_client.specs.Client.{Client}
use Rattle.laws_client.specs.Flags.{Believes, BelievesNow, Point}
use Rattle.laws_client.specs.Worlds.{DoneTellsFlags, HasFlagsNow, NoopTellsFlags, NothingPendingTellsFlags}
use Rattle.laws_client.specs.HouseClients.{point_of}
use Rattle.laws_client.specs.Flags.{IsRightOnFlags}
use Rattle.laws_client.proofs.FlagKnown.{flags_behind, lives_flags}
use Rattle.laws_client.proofs.Moments.{flags_are_current}
use Rattle.laws_client.proofs.FlagWorlds.{the_point}
use Rattle.imap_session.specs.declared.texts.ResponseText.TheVariants as texts
use Rattle.imap_session.specs.Texts.{response_text}
use Rattle.imap_grammar.specs.declared.command.Verb.TheVariants as verbs
use Rattle.laws_client.proofs.Barred.{line_case, login_shows_none, refused_turn, shown_waits}
use Rattle.laws_client.proofs.WholeLines.{said_turn}

-- ---- a cursor at the end of its log

-- what is believed of flags there is what they are
pub flags_now : (w : World) (n : ℕ) (s : Session) (client : Option Client) → w.session n ≡ Some s → s.cursor ≡ length (w.box s.mailbox).log → IsRightOnFlags (point_of w n) client → HasFlagsNow (w.box s.mailbox) client
flags_now w n s None is end right = tt
flags_now w n s (Some client) is end right = at_end (subst (λ (p : Point). IsRightOnFlags p (Some client)) (the_point w n s is ∙ ap (λ (c : ℕ). at_point c) end) right)
  where
    log : List Change
    log = (w.box s.mailbox).log

    at_point : ℕ → Point
    at_point c = record { log = (w.box s.mailbox).log; cursor = c }

    view : view_at (w.box s.mailbox).log (length (w.box s.mailbox).log) ≡ messages_of (w.box s.mailbox)
    view = ap (replay []) (take-length (w.box s.mailbox).log) ∙ sym (uids-rows_after [] (w.box s.mailbox).log)

    at_end : IsRightOnFlags (record { log = (w.box s.mailbox).log; cursor = length (w.box s.mailbox).log }) (Some client) → HasFlagsNow (w.box s.mailbox) (Some client)
    at_end (list, same, each) = (
      list,
      same,
      subst (λ (us : List ℕ). Each (BelievesNow (w.box s.mailbox).log) us list) view
          (each_weaker (Believes (record { log = (w.box s.mailbox).log; cursor = length (w.box s.mailbox).log })) (BelievesNow (w.box s.mailbox).log)
          (λ u m b names e. flags_are_current (w.box s.mailbox).log u names (b names e)) (view_at (w.box s.mailbox).log (length (w.box s.mailbox).log)) list each),
    )

-- where nothing is pending the cursor is there
nothing_waits : (log : List Change) (cursor : ℕ) (rest : List Change) → cursor ≤ length log → rest ≡ [] → length rest ≡ length log - cursor → cursor ≡ length log
nothing_waits log cursor rest within none long = omega (arith, within, long, ap length none)

pub all_was_shown : (k : Config) (w : World) (n : ℕ) (s : Session) → Kept k w → w.session n ≡ Some s → pending (w.box s.mailbox) s ≡ [] → s.cursor ≡ length (w.box s.mailbox).log
all_was_shown k w n s K is none =
    let ok : IsShown (w.box s.mailbox).log s = subst (λ (o : Option Session). SessionOk w.box o) is (K.sessions n) in
    nothing_waits (w.box s.mailbox).log s.cursor (pending (w.box s.mailbox) s) ok.within none (length-drop s.cursor (w.box s.mailbox).log)

pub nothing_pending_tells_flags : NothingPendingTellsFlags
nothing_pending_tells_flags k events n first began sent told now w s h is short stands lives at none =
    let known = lives_flags k n first began h (sound_always k events began h is) stands lives short in
    flags_now w n s (hears_all None told) at (all_was_shown k w n s known.sound.kept at none) known.right

-- ---- NOOP and DONE

abbrev IsAtEnd : World → ℕ → Type 0
IsAtEnd w n = (s : Session) → w.session n ≡ Some s → s.cursor ≡ length (w.box s.mailbox).log

fed_at_end : (k : Config) (w : World) (n : ℕ) (met : List ℕ) (changes : List Change) (v : World) → Kept k w → Meets k n w (Feed unlimited) (Fed met changes) v → IsAtEnd v n
fed_at_end k w n met changes v K (step, (s, is, (D, shown))) t now =
    let log : List Change = (w.box s.mailbox).log in
    let some : List Change = take unlimited (pending (w.box s.mailbox) s) in
    let ok : IsShown log s = subst (λ (o : Option Session). SessionOk w.box o) is (K.sessions n) in
    let after : World = record w { box = set_at w.box s.mailbox D.mailbox; session = set_at w.session n (Some (shows s some)) } in
    let there : v.session n ≡ Some (shows s some) = ap (λ (u : World). u.session n) D.made ∙ set_at-same w.session n (Some (shows s some)) in
    let same : shows s some ≡ t = ap (the_session t) (sym there ∙ now) in
    let box : (v.box s.mailbox).log ≡ log ++ [] = ap (λ (u : World). (u.box s.mailbox).log) D.made ∙ ap (λ b. b.log) (set_at-same w.box s.mailbox D.mailbox) ∙ D.logs.log in
    let end : s.cursor + length some ≡ length (v.box s.mailbox).log =
    all_shown s.cursor unlimited log ok.within (omega (arith, (K.boxes s.mailbox).room)) ∙ ap length (sym (append-nil log)) ∙ ap length (sym box) in
    subst (λ (u : Session). u.cursor ≡ length (v.box u.mailbox).log) same end

-- all that is pending is shown, and then the last line is said
shown_at_end : (k : Config) (n : ℕ) (tag words : List ℕ) (how : After) (now : Standing) (w : World) (answers : List Answer) (turn : Turn) (v : World) → Kept k w → IsTag tag
    → played tag now (Feed unlimited (Done words how)) answers ≡ Some turn → Met (Calls k n) w turn.events v → has_ok true tag turn.bytes ≡ true → IsAtEnd v n
shown_at_end k n tag words how now w [] turn v K t e met ok = absurd (none-some turn e)
shown_at_end k n tag words how now w (Fed view changes ∷ more) turn v K t e met ok =
    let m = mapped (λ (x : Turn). having (Feed unlimited) (Fed view changes) (saying (lines view changes) x)) (played tag now (Done words how) more) turn e in
    let d = only_done tag words how now more m.more m.is in
    let events : turn.events ≡ record { call = Feed unlimited; answer = Fed view changes } ∷ [] =
    ap (λ (x : Turn). x.events) (sym m.makes) ∙ ap (λ (es : List Happened). record { call = Feed unlimited; answer = Fed view changes } ∷ es) d.events in
    let met1 : Met (Calls k n) w (record { call = Feed unlimited; answer = Fed view changes } ∷ []) v = subst (λ (es : List Happened). Met (Calls k n) w es v) events met in
    subst (λ (u : World). IsAtEnd u n) (sym met1.2) (fed_at_end k w n view changes met1.0 K met1.1)
shown_at_end k n tag words how now w (Refused fault ∷ []) turn v K t e met ok =
    let m = mapped (having (Feed unlimited) (Refused fault)) (Some (refused tag now fault)) turn e in
    let only = only_refused tag now fault m.more m.is in
    absurd (false≢true (sym (refusal_has_none tag fault t) ∙ ap (has_ok true tag) (sym only.bytes ∙ ap (λ (x : Turn). x.bytes) m.makes) ∙ ok))
shown_at_end k n tag words how now w (_ ∷ more) turn v K t e met ok = absurd (none-some turn e)

noop_at_end : (k : Config) (n : ℕ) (now : Standing) (line whole tag : List ℕ) (w : World) (turn : Turn) (v : World) → Kept k w → IsAnswered k n now line w turn v
    → whole_line now line ≡ Some whole → read whole ≡ Ok (tag, commands.Noop) → has_ok true tag turn.bytes ≡ true → IsAtEnd v n
noop_at_end k n now line whole tag w turn v K a came reads ok =
    let t : IsTag tag = tags_are_tags whole tag commands.Noop reads in
    let bare : Standing = without_begun now in
    line_case (IsAtEnd v n) bare tag commands.Noop a.answers turn (λ logs d. absurd (false≢true (sym (login_shows_none now.login commands.Noop logs))))
    (λ text is d. absurd (false≢true (sym (refused_turn tag text bare a.answers turn t is d) ∙ ok)))
    (λ d. shown_at_end k n tag (response_text (texts.Completed verbs.Noop)) Go bare w a.answers turn v K t (subst (λ (o : Option Selected). played tag bare (showing o (completed commands.Noop)) a.answers ≡ Some turn) a.there d) a.met ok)
    (said_turn now line whole tag commands.Noop a.answers turn came reads (shown_waits now.login commands.Noop refl) a.answered)

done_at_end : (k : Config) (n : ℕ) (now : Standing) (line tag : List ℕ) (w : World) (turn : Turn) (v : World) → Kept k w → IsAnswered k n now line w turn v
    → now.mailing.begun ≡ None → now.idling ≡ Some tag → is_done line ≡ true → has_ok true tag turn.bytes ≡ true → IsAtEnd v n
done_at_end k n now line tag w turn v K a begun idling done ok =
    let first : turn_while now.idling now line a.answers ≡ Some turn = subst (λ (o : Option PendingLiteral). turn_behind o now line a.answers ≡ Some turn) begun a.answered in
    let second : turn_while (Some tag) now line a.answers ≡ Some turn = subst (λ (o : Option (List ℕ)). turn_while o now line a.answers ≡ Some turn) idling first in
    let third : played tag (record now { idling = None }) (on_idle_line (Some a.selected) line) a.answers ≡ Some turn =
    subst (λ (o : Option Selected). played tag (record now { idling = None }) (on_idle_line o line) a.answers ≡ Some turn) a.there second in
    let fourth : played tag (record now { idling = None }) (showing (Some a.selected) (completed commands.Idle)) a.answers ≡ Some turn = awake done third in
    shown_at_end k n tag (response_text (texts.Completed verbs.Idle)) Go (record now { idling = None }) w a.answers turn v K (subst (λ (o : Option (List ℕ)). IfSome o IsTag) idling a.stands.tags.0) fourth a.met ok
  where
    awake : is_done line ≡ true → played tag (record now { idling = None }) (on_idle_line (Some a.selected) line) a.answers ≡ Some turn
        → played tag (record now { idling = None }) (showing (Some a.selected) (completed commands.Idle)) a.answers ≡ Some turn
    awake h e = subst (λ (b : Bool). played tag (record now { idling = None }) (if b then showing (Some a.selected) (completed commands.Idle) else says (response_text texts.ExpectedDone)) a.answers ≡ Some turn) h e

-- ---- in a life

pub noop_tells_flags : NoopTellsFlags
noop_tells_flags k events n first began sent told now w line whole tag turn v s h is short stands lives a came reads ok at =
    let S = sound_always k events began h is in
    let before = lives_flags k n first began h S stands lives (short_met k n w turn.events v a.met short) in
    let after = flags_behind k n told now w (Line line a.answers) turn v h short before tt a.answered a.met in
    let told_is : told_of now (Line line a.answers) turn.bytes ≡ Answer_to whole turn.bytes = ap (λ (o : Option (List ℕ)). told_line o turn.bytes) came in
    flags_now v n s (hears_all None (told ++ Answer_to whole turn.bytes ∷ [])) at (noop_at_end k n now line whole tag w turn v before.sound.kept a came reads ok s at)
    (subst (λ (one : Told). IsRightOnFlags (point_of v n) (hears_all None (told ++ one ∷ []))) told_is after.right)

pub done_tells_flags : DoneTellsFlags
done_tells_flags k events n first began sent told now w line tag turn v s h is short stands lives a begun idling done ok at =
    let S = sound_always k events began h is in
    let before = lives_flags k n first began h S stands lives (short_met k n w turn.events v a.met short) in
    let after = flags_behind k n told now w (Line line a.answers) turn v h short before tt a.answered a.met in
    let none : whole_line now line ≡ None = ap (λ (b : Option PendingLiteral). whole_in b now.idling line) begun ∙ ap (λ (i : Option (List ℕ)). whole_in None i line) idling in
    let told_is : told_of now (Line line a.answers) turn.bytes ≡ Words turn.bytes = ap (λ (o : Option (List ℕ)). told_line o turn.bytes) none in
    flags_now v n s (hears_all None (told ++ Words turn.bytes ∷ [])) at (done_at_end k n now line tag w turn v before.sound.kept a begun idling done ok s at)
    (subst (λ (one : Told). IsRightOnFlags (point_of v n) (hears_all None (told ++ one ∷ []))) told_is after.right)
