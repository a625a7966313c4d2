-- What a session's call tells of flags in the world.
use Rattle.std.proofs.Common.{◌≡◌, ℕ, ◌+◌, ◌≤◌, Bool, List, ◌∷◌, ◌++◌, length, drop, refl, sym, subst, ap, ◌∙◌, arith, append-nil, []}
use Rattle.std.specs.Prelude.{Option, Some, None, option_map}
use Rattle.std.proofs.lemmas.List.{take-append-drop, take-append-le}
use Rattle.shard_queue.specs.Lane.{set_at}
use Rattle.shard_queue.proofs.AtLaws.{set_at-same}
use Rattle.change_ring.specs.declared.change.Change.{Change}
use Rattle.change_ring.specs.declared.change.Flags.{Flags}
use Rattle.change_ring.specs.declared.flag_op.FlagOp.{FlagOp}
use Rattle.change_ring.specs.Log.{IsLegalLog, Row, replay, rows_of, flags_logged, removals, seen_logged}
use Rattle.mailbox.specs.Events.{in_set}
use Rattle.mailbox.specs.declared.clients.Row as read
use Rattle.world.specs.World.{Box, Config, Event, Session, Step, World, shows}
use Rattle.world.proofs.Always.{legal, kept_always}
use Rattle.world.proofs.Kept.{Kept, SessionOk}
use Rattle.delivery_core.specs.Clients.{Done, row_with, rows_then}
use Rattle.imap_session.specs.Exchange.{Call, Answer, Event as Happened, Look, Read as ReadCall, Count, Alter, Expunge as ExpungeCall, Feed as FeedCall, Leave as LeaveCall, Enter as EnterCall, Entered, Looked, Found, Counted, Altered, Expunged, Fed, Left, Refused, Discard as DiscardCall, Discarded}
use Rattle.imap_session.specs.Store.{Met}
use Rattle.house.specs.Meets.{Meets}
use Rattle.laws_client.specs.Clients.{Each}
use Rattle.laws_client.specs.Client.{Client}
use Rattle.laws_client.specs.ListTurns.{Sees}
use Rattle.laws_client.proofs.Each.{each_weaker}
use Rattle.laws_client.specs.Sizes.{HasShortTexts}
use Rattle.laws_client.specs.HouseClients.{HasSmallNumbers}
use Rattle.laws_client.specs.Views.{view_in, view_of}
use Rattle.laws_client.specs.HouseClients.{IsOfOthers}
use Rattle.laws_client.proofs.Boxes.{box_goes}
use Rattle.laws_client.proofs.Moved.{Calls, moved, moved_extends, short_before, short_met, sound_moved}
use Rattle.laws_client.proofs.Seen.{seen, turned_away, was_refused, discard_leaves}
use Rattle.laws_client.proofs.RecordWorlds.{Grows, Sound, goes_grows, session_stays, sound_always}
use Rattle.laws_client.specs.Flags.{Believes, KnowsFlags, Point, counted}
use Rattle.laws_client.specs.FlagTurns.{IfInside, SeesAllFlags, SeesFlags, TellsFlags, shown_in}
use Rattle.laws_client.specs.Worlds.{CallsTellFlags, OthersLeaveFlags}
use Rattle.laws_client.specs.HouseClients.{point_in, point_of}
use Rattle.laws_client.specs.Flags.{IsRightOnFlags}
use Rattle.laws_client.proofs.Moments.{flags_outlast}

-- ---- points

-- what a session counts is what is counted at its point
counted_in : (w : World) (o : Option Session) → view_in w o ≡ counted (point_in w o)
counted_in w None = refl
counted_in w (Some s) = refl

pub counted_of : (w : World) (n : ℕ) → view_of w n ≡ counted (point_of w n)
counted_of w n = counted_in w (w.session n)

record IsSoundAt (p : Point) : Type 0 where
  legal : IsLegalLog p.log
  within : p.cursor ≤ length p.log

sound_in : (k : Config) (w : World) → Kept k w → (o : Option Session) → SessionOk w.box o → IsSoundAt (point_in w o)
sound_in k w K None ok = record { legal = record { rising = λ i l. absurd (omega (arith, l)); there = tt }; within = omega arith }
sound_in k w K (Some s) ok = record { legal = legal k w K s.mailbox; within = ok.within }

sound_at : (k : Config) (w : World) (n : ℕ) → Sound k w → IsSoundAt (point_of w n)
sound_at k w n S = sound_in k w S.kept (w.session n) (S.kept.sessions n)

pub the_point : (w : World) (n : ℕ) (s : Session) → w.session n ≡ Some s → point_of w n ≡ record { log = (w.box s.mailbox).log; cursor = s.cursor }
the_point w n s is = ap (point_in w) is

seen_at : (w : World) (n : ℕ) (event : Happened) (v : World) → Sees (view_of w n) event (view_of v n) → Sees (counted (point_of w n)) event (counted (point_of v n))
seen_at w n event v s = subst (λ (view : List ℕ). Sees view event (counted (point_of v n))) (counted_of w n) (subst (λ (view : List ℕ). Sees (view_of w n) event view) (counted_of v n) s)

-- ---- calls

-- nothing happens, and nothing is told of flags
still_seen : (k : Config) (w : World) (n : ℕ) (call : Call) (answer : Answer) (v : World) → Sound k w → v ≡ w → Sees (view_of w n) (record { call = call; answer = answer }) (view_of v n) → shown_in answer ≡ []
    → ((q : Point) → TellsFlags q call answer) → SeesFlags (point_of w n) (record { call = call; answer = answer }) (point_of v n)
still_seen k w n call answer v S e sees none tells =
    let p : Point = point_of w n in
    let same : point_of v n ≡ p = ap (λ (u : World). point_of u n) e in
    let ok = sound_at k w n S in record {
      sees = seen_at w n (record { call = call; answer = answer }) v sees;
      legal = ok.legal;
      within = ok.within;
      rest = drop p.cursor p.log;
      shows = ap (λ (cs : List Change). cs ++ drop p.cursor p.log) (sym none);
      cursor = ap (λ (q : Point). q.cursor) same ∙ omega (arith, ap length none);
      later = [];
      log = ap (λ (q : Point). q.log) same ∙ sym (append-nil p.log);
      tells = tells (point_of v n);
    }

abbrev at_point : List Change → ℕ → Point
at_point log cursor = record { log = log; cursor = cursor }

-- where its session is behind a call that was not refused
done_point : (k : Config) (w : World) (n : ℕ) (s : Session) (shown changes : List Change) (v : World) → Done k w n s shown changes v
    → point_of v n ≡ record { log = (w.box s.mailbox).log ++ changes; cursor = s.cursor + length shown }
done_point k w n s shown changes v D =
    let after : World = record w { box = set_at w.box s.mailbox D.mailbox; session = set_at w.session n (Some (shows s shown)) } in
    ap (λ (u : World). point_of u n) D.made
    ∙ ap (point_in after) (set_at-same w.session n (Some (shows s shown)))
    ∙ ap (λ (b : Box). at_point b.log (s.cursor + length shown)) (set_at-same w.box s.mailbox D.mailbox)
    ∙ ap (λ (log : List Change). at_point log (s.cursor + length shown)) D.logs.log

done_seen : (k : Config) (w : World) (n : ℕ) (s : Session) (call : Call) (answer : Answer) (changes rest : List Change) (v : World) → Sound k w → w.session n ≡ Some s
    → Sees (view_of w n) (record { call = call; answer = answer }) (view_of v n) → Done k w n s (shown_in answer) changes v → drop s.cursor (w.box s.mailbox).log ≡ shown_in answer ++ rest
    → ((q : Point) → q.log ≡ (w.box s.mailbox).log ++ changes → TellsFlags q call answer) → SeesFlags (point_of w n) (record { call = call; answer = answer }) (point_of v n)
done_seen k w n s call answer changes rest v S is sees D shows tells =
    let here = the_point w n s is in
    let there = done_point k w n s (shown_in answer) changes v D in
    let ok = sound_at k w n S in record {
      sees = seen_at w n (record { call = call; answer = answer }) v sees;
      legal = ok.legal;
      within = ok.within;
      rest = rest;
      shows = ap (λ (p : Point). drop p.cursor p.log) here ∙ shows;
      cursor = ap (λ (q : Point). q.cursor) there ∙ ap (λ (p : Point). p.cursor + length (shown_in answer)) (sym here);
      later = changes;
      log = ap (λ (q : Point). q.log) there ∙ ap (λ (p : Point). p.log ++ changes) (sym here);
      tells = tells (point_of v n) (ap (λ (q : Point). q.log) there);
    }

row_told : (q : Point) (uid : ℕ) (mark : Bool) (f : Row → read.Row) → ((row : Row) → (f row).flags ≡ row.flags) → (o : Option Row) → row_with uid (rows_of q.log) ≡ o → TellsFlags q (ReadCall uid mark) (Found (option_map f o))
row_told q uid mark f same None e = tt
row_told q uid mark f same (Some row) e = ap (option_map (λ (r : Row). r.flags)) e ∙ ap (λ (x : Flags). Some x) (sym (same row))

read_flags : (k : Config) (w : World) (n uid : ℕ) (mark : Bool) (row : Option read.Row) (v : World) → Sound k w → Sees (view_of w n) (record { call = ReadCall uid mark; answer = Found row }) (view_of v n)
    → Meets k n w (ReadCall uid mark) (Found row) v → SeesFlags (point_of w n) (record { call = ReadCall uid mark; answer = Found row }) (point_of v n)
read_flags k w n uid mark row v S sees (step, (s, is, (D, (kept, found)))) =
    let log : List Change = (w.box s.mailbox).log in
    let changes : List Change = seen_logged mark (rows_of log) uid in
    done_seen k w n s (ReadCall uid mark) (Found row) changes (drop s.cursor log) v S is sees D refl
    (λ q e. subst (λ (o : Option read.Row). TellsFlags q (ReadCall uid mark) (Found o)) (sym found)
    (row_told q uid mark _ (λ r. refl) (row_with uid (rows_then (w.box s.mailbox) changes)) (ap (λ (l : List Change). row_with uid (rows_of l)) e)))

flags_told : (q : Point) (uid : ℕ) (op : FlagOp) (o : Option Row) → row_with uid (rows_of q.log) ≡ o → TellsFlags q (Alter uid op) (Altered (option_map (λ (r : Row). r.flags) o))
flags_told q uid op None e = tt
flags_told q uid op (Some row) e = ap (option_map (λ (r : Row). r.flags)) e

alter_flags : (k : Config) (w : World) (n uid : ℕ) (op : FlagOp) (flags : Option Flags) (v : World) → Sound k w → Sees (view_of w n) (record { call = Alter uid op; answer = Altered flags }) (view_of v n)
    → Meets k n w (Alter uid op) (Altered flags) v → SeesFlags (point_of w n) (record { call = Alter uid op; answer = Altered flags }) (point_of v n)
alter_flags k w n uid op flags v S sees (step, (s, is, (D, (kept, altered)))) =
    let log : List Change = (w.box s.mailbox).log in
    let changes : List Change = flags_logged (rows_of log) uid op in
    done_seen k w n s (Alter uid op) (Altered flags) changes (drop s.cursor log) v S is sees D refl
    (λ q e. subst (λ (o : Option Flags). TellsFlags q (Alter uid op) (Altered o)) (sym altered)
    (flags_told q uid op (row_with uid (rows_then (w.box s.mailbox) changes)) (ap (λ (l : List Change). row_with uid (rows_of l)) e)))

expunge_flags : (k : Config) (w : World) (n : ℕ) (uids : Option (List ℕ)) (met : List ℕ) (changes : List Change) (gone : ℕ) (v : World) → Sound k w
    → Sees (view_of w n) (record { call = ExpungeCall uids; answer = Expunged met changes gone }) (view_of v n) → Meets k n w (ExpungeCall uids) (Expunged met changes gone) v
    → SeesFlags (point_of w n) (record { call = ExpungeCall uids; answer = Expunged met changes gone }) (point_of v n)
expunge_flags k w n uids met changes gone v S sees (step, (s, is, (D, (shown, went)))) =
    done_seen k w n s (ExpungeCall uids) (Expunged met changes gone) (removals (in_set uids) (rows_of (w.box s.mailbox).log)) [] v S is sees
    (subst (λ (cs : List Change). Done k w n s cs (removals (in_set uids) (rows_of (w.box s.mailbox).log)) v) (sym shown.handed) D)
    (sym shown.handed ∙ sym (append-nil changes)) (λ q e. tt)

feed_flags : (k : Config) (w : World) (n limit : ℕ) (met : List ℕ) (changes : List Change) (v : World) → Sound k w → Sees (view_of w n) (record { call = FeedCall limit; answer = Fed met changes }) (view_of v n)
    → Meets k n w (FeedCall limit) (Fed met changes) v → SeesFlags (point_of w n) (record { call = FeedCall limit; answer = Fed met changes }) (point_of v n)
feed_flags k w n limit met changes v S sees (step, (s, is, (D, shown))) =
    let waiting : List Change = drop s.cursor (w.box s.mailbox).log in
    done_seen k w n s (FeedCall limit) (Fed met changes) [] (drop limit waiting) v S is sees (subst (λ (cs : List Change). Done k w n s cs [] v) (sym shown.handed) D)
    (sym (take-append-drop limit waiting) ∙ ap (λ (cs : List Change). cs ++ drop limit waiting) (sym shown.handed)) (λ q e. tt)

-- where the session is stays, and the log of its mailbox has grown, or not
record HasGrown (p q : Point) : Type 0 where
  later : List Change
  log : q.log ≡ p.log ++ later
  cursor : q.cursor ≡ p.cursor

grown_in : (w v : World) (o : Option Session) → ((m : ℕ) → Grows (w.box m) (v.box m)) → HasGrown (point_in w o) (point_in v o)
grown_in w v None grows = record { later = []; log = refl; cursor = refl }
grown_in w v (Some s) grows = record { later = (grows s.mailbox).changes; log = (grows s.mailbox).log; cursor = refl }

-- messages were discarded, perhaps of the very mailbox
discard_flags : (k : Config) (w : World) (n i : ℕ) (uids : List ℕ) (v : World) → Sound k w → Sees (view_of w n) (record { call = DiscardCall i uids; answer = Discarded }) (view_of v n)
    → Meets k n w (DiscardCall i uids) Discarded v → SeesFlags (point_of w n) (record { call = DiscardCall i uids; answer = Discarded }) (point_of v n)
discard_flags k w n i uids v S sees m =
    let p : Point = point_of w n in
    let stays = discard_leaves k w n i uids v m in
    let grown : HasGrown p (point_of v n) = subst (λ (o : Option Session). HasGrown p (point_in v o)) (sym stays.session) (grown_in w v (w.session n) stays.grows) in
    let ok = sound_at k w n S in record {
      sees = seen_at w n (record { call = DiscardCall i uids; answer = Discarded }) v sees;
      legal = ok.legal;
      within = ok.within;
      rest = drop p.cursor p.log;
      shows = refl;
      cursor = grown.cursor ∙ omega arith;
      later = grown.later;
      log = grown.log;
      tells = tt;
    }

pub call_seen : (k : Config) (w : World) (n : ℕ) (call : Call) (answer : Answer) (v : World) → Sound k w → HasSmallNumbers k → HasShortTexts w → Meets k n w call answer v
    → IfInside answer (SeesFlags (point_of w n) (record { call = call; answer = answer }) (point_of v n))
call_seen k w n (EnterCall i) (Entered opening) v S h short m = tt
call_seen k w n (EnterCall i) (Refused fault) v S h short m = still_seen k w n (EnterCall i) (Refused fault) v S (turned_away k n i w fault v m) (seen k w n (EnterCall i) (Refused fault) v S h short m) refl (λ q. tt)
call_seen k w n (Look by_uid set) (Looked copied) v S h short m = still_seen k w n (Look by_uid set) (Looked copied) v S m.0 (seen k w n (Look by_uid set) (Looked copied) v S h short m) refl (λ q. tt)
call_seen k w n (Look by_uid set) (Refused fault) v S h short m = still_seen k w n (Look by_uid set) (Refused fault) v S (was_refused n w fault _ v m) (seen k w n (Look by_uid set) (Refused fault) v S h short m) refl (λ q. tt)
call_seen k w n (ReadCall uid mark) (Found row) v S h short m = read_flags k w n uid mark row v S (seen k w n (ReadCall uid mark) (Found row) v S h short m) m
call_seen k w n (ReadCall uid mark) (Refused fault) v S h short m = still_seen k w n (ReadCall uid mark) (Refused fault) v S (was_refused n w fault _ v m) (seen k w n (ReadCall uid mark) (Refused fault) v S h short m) refl (λ q. tt)
call_seen k w n (Count i) (Counted status) v S h short m = still_seen k w n (Count i) (Counted status) v S m.0 (seen k w n (Count i) (Counted status) v S h short m) refl (λ q. tt)
call_seen k w n (Count i) (Refused fault) v S h short m = still_seen k w n (Count i) (Refused fault) v S m.0 (seen k w n (Count i) (Refused fault) v S h short m) refl (λ q. tt)
call_seen k w n (Alter uid op) (Altered flags) v S h short m = alter_flags k w n uid op flags v S (seen k w n (Alter uid op) (Altered flags) v S h short m) m
call_seen k w n (Alter uid op) (Refused fault) v S h short m = still_seen k w n (Alter uid op) (Refused fault) v S (was_refused n w fault _ v m) (seen k w n (Alter uid op) (Refused fault) v S h short m) refl (λ q. tt)
call_seen k w n (ExpungeCall uids) (Expunged met changes gone) v S h short m = expunge_flags k w n uids met changes gone v S (seen k w n (ExpungeCall uids) (Expunged met changes gone) v S h short m) m
call_seen k w n (ExpungeCall uids) (Refused fault) v S h short m = still_seen k w n (ExpungeCall uids) (Refused fault) v S (was_refused n w fault _ v m) (seen k w n (ExpungeCall uids) (Refused fault) v S h short m) refl (λ q. tt)
call_seen k w n (FeedCall limit) (Fed met changes) v S h short m = feed_flags k w n limit met changes v S (seen k w n (FeedCall limit) (Fed met changes) v S h short m) m
call_seen k w n (FeedCall limit) (Refused fault) v S h short m = still_seen k w n (FeedCall limit) (Refused fault) v S (was_refused n w fault _ v m) (seen k w n (FeedCall limit) (Refused fault) v S h short m) refl (λ q. tt)
call_seen k w n (LeaveCall remove) (Left gone) v S h short m = tt
call_seen k w n (LeaveCall remove) (Refused fault) v S h short m = still_seen k w n (LeaveCall remove) (Refused fault) v S (was_refused n w fault _ v m) (seen k w n (LeaveCall remove) (Refused fault) v S h short m) refl (λ q. tt)
call_seen k w n (DiscardCall i uids) Discarded v S h short m = discard_flags k w n i uids v S (seen k w n (DiscardCall i uids) Discarded v S h short m) m
call_seen k w n (DiscardCall i uids) (Refused fault) v S h short m = still_seen k w n (DiscardCall i uids) (Refused fault) v S m.0 (seen k w n (DiscardCall i uids) (Refused fault) v S h short m) refl (λ q. tt)
call_seen k w n _ _ v _ h short m = absurd m

pub calls_tell_flags : CallsTellFlags
calls_tell_flags k events w n call answer v h is short m = call_seen k w n call answer v (sound_always k events w h is) h short m

-- several calls
pub sees_all_flags : (k : Config) (n : ℕ) (w : World) (events : List Happened) (v : World) → HasSmallNumbers k → Sound k w → HasShortTexts v → Met (Calls k n) w events v → SeesAllFlags (point_of w n) events (point_of v n)
sees_all_flags k n w [] v h S short met = ap (λ (u : World). point_of u n) met
sees_all_flags k n w (e ∷ events) v h S short (mid, one, more) =
    let moves = moved k n w e.call e.answer mid one in
    let short_mid = short_met k n mid events v more short in
    (point_of mid n, call_seen k w n e.call e.answer mid S h (short_before w mid (moved_extends k n w mid moves) short_mid) one, sees_all_flags k n mid events v h (sound_moved k n w mid moves S) short more)

-- ---- what others do

-- the mailbox's log grows, and the session is where it was
later_flags : (w v : World) (o : Option Session) (client : Option Client) → SessionOk w.box o → ((m : ℕ) → Grows (w.box m) (v.box m)) → IsRightOnFlags (point_in w o) client → IsRightOnFlags (point_in v o) client
later_flags w v o None ok grows right = tt
later_flags w v None (Some client) ok grows right = right
later_flags w v (Some s) (Some client) ok grows (list, is, right) =
    let g = grows s.mailbox in
    let old : Point = record { log = (w.box s.mailbox).log; cursor = s.cursor } in
    let new : Point = record { log = (w.box s.mailbox).log ++ g.changes; cursor = s.cursor } in
    let view : counted new ≡ counted old = ap (replay []) (take-append-le s.cursor (w.box s.mailbox).log g.changes ok.within) in
    let more : Each (Believes new) (counted old) list = each_weaker (Believes old) (Believes new) (λ u m b names e. flags_outlast (w.box s.mailbox).log g.changes s.cursor u names (b names e)) (counted old) list right in
    (list, is, subst (λ (log : List Change). KnowsFlags (record { log = log; cursor = s.cursor }) list) (sym g.log) (subst (λ (us : List ℕ). Each (Believes new) us list) (sym view) more))

pub others_flags : (k : Config) (w : World) (event : Event) (v : World) (n : ℕ) (client : Option Client) → Kept k w → Step k w event v → IsOfOthers n event → IsRightOnFlags (point_of w n) client → IsRightOnFlags (point_of v n) client
others_flags k w event v n client K step o right =
    subst (λ (s : Option Session). IsRightOnFlags (point_in v s) client) (sym (session_stays k w event v n o step))
    (later_flags w v (w.session n) client (K.sessions n) (λ m. goes_grows k (w.box m) (v.box m) (box_goes k w event v m step)) right)

pub others_leave_flags : OthersLeaveFlags
others_leave_flags k events w event v n client is step o right = others_flags k w event v n client (kept_always k events w is) step o right
