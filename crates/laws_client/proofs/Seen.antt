-- What a session's call comes to in the world, as its client's list has it: what is shown may be shown, what is read is the row that was asked for, and what is counted can be printed.
use Rattle.std.proofs.Common.{◌≡◌, ℕ, ◌+◌, ◌^◌, ◌*◌, ◌<◌, ◌≤◌, Bool, true, false, ◌==◌, List, ◌∷◌, ◌++◌, length, take, drop, refl, sym, subst, ap, ◌∙◌, arith, length-append, []}
use Rattle.std.specs.Prelude.{Option, Some, option_map, not, sum_by, if◌then◌else◌}
use Rattle.std.proofs.Math.Seq.{take-length}
use Rattle.std.proofs.lemmas.Bool.{eqb-true}
use Rattle.std.proofs.lemmas.Option.{none-some}
use Rattle.std.proofs.lemmas.List.{take-append-drop, length-drop, length-take, length-map}
use Rattle.std.proofs.lemmas.List.Sums.{count_by-le-length, sum_by-le}
use Rattle.std.proofs.Math.Nat.{min-le_right}
use Rattle.shard_queue.specs.Lane.{set_at}
use Rattle.shard_queue.proofs.AtLaws.{set_at-same}
use Rattle.delivery_token.specs.declared.Job.{Job}
use Rattle.change_ring.specs.declared.change.Change.{Change}
use Rattle.change_ring.specs.declared.change.Flags.{Flags}
use Rattle.change_ring.specs.declared.flag_op.FlagOp.{FlagOp}
use Rattle.change_ring.specs.Log.{Row, added, replay, rows_of, view_at, FitsView, flags_logged, removals, seen_logged}
use Rattle.change_ring.proofs.LogLaws.{added-append, uids-rows_after, FitsView-rest, FitsView-take}
use Rattle.mailbox.specs.Events.{in_set}
use Rattle.mailbox.specs.declared.clients.MailFault.{MailFault}
use Rattle.mailbox.specs.declared.clients.MailFault.TheVariants.{Stranger, Lapped, Spent, NoMemory}
use Rattle.mailbox.specs.declared.clients.Opening.{Opening}
use Rattle.mailbox.specs.declared.clients.Row as read
use Rattle.mailbox.specs.declared.mailbox.Status.{Status}
use Rattle.world.specs.World as world
use Rattle.world.specs.World.{Config, World, Box, Session, last_uid, most_changes, pending, shows, enters, enter_spent, enter_no_memory}
use Rattle.world.specs.Law.{IsShown}
use Rattle.world.proofs.Base.{Every, every_of_all, all_of_every}
use Rattle.world.proofs.Kept.{Kept, SessionOk}
use Rattle.delivery_core.specs.Clients.{Done, IsStatus, row_with, rows_then, text_with}
use Rattle.imap_grammar.specs.declared.set.SeqRange.{SeqRange}
use Rattle.imap_session.specs.Exchange.{Call, Answer, Look, Read as ReadCall, Count, Alter, Expunge as ExpungeCall, Feed as FeedCall, Leave as LeaveCall, Enter as EnterCall, Entered, Looked, Found, Counted, Altered, Expunged, Fed, Left, Refused, Discard as DiscardCall, Discarded}
use Rattle.house.specs.Meets.{Meets, IsRefused, IsTurnedAway}
use Rattle.laws_client.specs.Beliefs.{MayShow}
use Rattle.laws_client.specs.Fetches.{AreSmall}
use Rattle.laws_client.specs.ListTurns.{IsCounted, IsRowOf, Sees}
use Rattle.laws_client.specs.Sizes.{HasShortTexts}
use Rattle.laws_client.specs.HouseClients.{HasSmallNumbers}
use Rattle.laws_client.specs.Views.{IsOpened, messages_of, view_in, view_of}
use Rattle.laws_client.specs.RecordLaws.{CallsAreSeen, EntriesAreCounted, LeaversCountNothing}
use Rattle.laws_client.proofs.RecordWorlds.{Sound, added_few, added_small, sound_always, Grows, goes_grows, session_stays, view_kept}
use Rattle.laws_client.proofs.Logs.{are_printed, length_replay, small_behind, small_front, small_replay, view_then}
use Rattle.laws_client.proofs.Boxes.{box_goes}

-- ---- what is shown

-- the changes behind a position of a log, at most so many, where the messages are few
pub shows_fit : (log : List Change) (c l : ℕ) → FitsView [] log → AreSmall (added log) → length (view_at log c) + length (take l (drop c log)) < 2 ^ 64 → MayShow (view_at log c) (take l (drop c log))
shows_fit log c l fits small few =
    let front : List Change = take c log in
    let behind : List Change = drop c log in
    let next : List Change = take l behind in
    let rest : List Change = drop l behind in
    let two : added log ≡ added front ++ added behind = ap added (sym (take-append-drop c log)) ∙ added-append front behind in
    let three : added behind ≡ added next ++ added rest = ap added (sym (take-append-drop l behind)) ∙ added-append next rest in
    let small_front_of_it : AreSmall (added front) = small_front (added front) (added behind) (subst AreSmall two small) in
    let small_behind_it : AreSmall (added behind) = small_behind (added front) (added behind) (subst AreSmall two small) in
    let small_next : AreSmall (added next) = small_front (added next) (added rest) (subst AreSmall three small_behind_it) in
    let fit : FitsView (view_at log c) next = FitsView-take (view_at log c) l behind (FitsView-rest [] front behind (rw take-append-drop fits)) in record {
      fits = fit;
      printed = are_printed (view_at log c) next (small_replay [] front tt small_front_of_it) small_next fit;
      few = few;
    }

may_show : (log : List Change) (c l : ℕ) → FitsView [] log → AreSmall (added log) → length (added log) ≤ last_uid → length log ≤ most_changes → MayShow (view_at log c) (take l (drop c log))
may_show log c l fits small few short =
    let front : List Change = take c log in
    let behind : List Change = drop c log in
    let two : added log ≡ added front ++ added behind = ap added (sym (take-append-drop c log)) ∙ added-append front behind in
    let some : length (take l behind) ≤ length behind = rw (length-take l behind) (min-le_right l (length behind)) in
    shows_fit log c l fits small (omega (
      arith,
      few,
      short,
      some,
      length-drop c log,
      ap length two,
      length-append (added front) (added behind),
      length_replay [] front,
    ))

-- ---- a call that was not refused

the_view : (w : World) (n : ℕ) (s : Session) → w.session n ≡ Some s → view_of w n ≡ view_at (w.box s.mailbox).log s.cursor
the_view w n s is = ap (view_in w) is

-- the session's view is what the changes that it was shown leave of it
done_view : (k : Config) (w : World) (n : ℕ) (s : Session) (l : ℕ) (shown changes : List Change) (v : World) → Kept k w → w.session n ≡ Some s → shown ≡ take l (drop s.cursor (w.box s.mailbox).log)
    → Done k w n s shown changes v → view_of v n ≡ replay (view_of w n) shown
done_view k w n s l shown changes v K is cut D =
    let log : List Change = (w.box s.mailbox).log in
    let ok : IsShown log s = subst (λ (o : Option Session). SessionOk w.box o) is (K.sessions n) in
    let after : World = record w { box = set_at w.box s.mailbox D.mailbox; session = set_at w.session n (Some (shows s shown)) } in
    ap (λ (u : World). view_of u n) D.made
    ∙ ap (view_in after) (set_at-same w.session n (Some (shows s shown)))
    ∙ ap (λ (b : Box). view_at b.log (s.cursor + length shown)) (set_at-same w.box s.mailbox D.mailbox)
    ∙ ap (λ (xs : List Change). view_at xs (s.cursor + length shown)) D.logs.log
    ∙ ap (λ (cs : List Change). view_at (log ++ changes) (s.cursor + length cs)) cut
    ∙ view_then s.cursor l log changes ok.within
    ∙ ap (λ (cs : List Change). replay (view_at log s.cursor) cs) (sym cut)
    ∙ ap (λ (view : List ℕ). replay view shown) (sym (the_view w n s is))

may_be_shown : (k : Config) (w : World) → Sound k w → (n : ℕ) (s : Session) → w.session n ≡ Some s → (l : ℕ) (shown : List Change) → shown ≡ take l (drop s.cursor (w.box s.mailbox).log) → MayShow (view_of w n) shown
may_be_shown k w S n s is l shown cut =
    let B = S.kept.boxes s.mailbox in
    subst (λ (cs : List Change). MayShow (view_of w n) cs) (sym cut)
    (subst (λ (view : List ℕ). MayShow view (take l (drop s.cursor (w.box s.mailbox).log))) (sym (the_view w n s is))
    (may_show (w.box s.mailbox).log s.cursor l B.there (added_small k w S s.mailbox) (added_few k w S s.mailbox) B.room))

-- ---- what is read

row_named : (uid : ℕ) (f : Row → read.Row) (rows : List Row) → ((row : Row) → ((f row).uid ≡ row.uid) × (length (f row).text.bytes < 2 ^ 64)) → IsRowOf uid (option_map f (row_with uid rows))
row_named uid f [] fits = tt
row_named uid f (row ∷ rows) fits = by (row.uid == uid) refl (row_named uid f rows fits)
  where
    by : (b : Bool) → (row.uid == uid) ≡ b → IsRowOf uid (option_map f (row_with uid rows)) → IsRowOf uid (option_map f (if b then Some row else row_with uid rows))
    by true e more = ((fits row).0 ∙ eqb-true row.uid uid e, (fits row).1)
    by false e more = more

text_short : (uid : ℕ) (copies : List (Job × ℕ)) → Every (λ (a : Job × ℕ). length a.0.text.bytes < 2 ^ 32) copies → length (text_with uid copies).bytes < 2 ^ 32
text_short uid [] h = omega arith
text_short uid (a ∷ copies) h = by (a.1 == uid) (text_short uid copies h.1)
  where
    by : (b : Bool) → length (text_with uid copies).bytes < 2 ^ 32 → length (if b then a.0.text else text_with uid copies).bytes < 2 ^ 32
    by true more = h.0
    by false more = more

short_in : (w : World) (m uid : ℕ) → HasShortTexts w → length (text_with uid (w.box m).accepted).bytes < 2 ^ 32
short_in w m uid short = text_short uid (w.box m).accepted (every_of_all _ (w.box m).accepted (short m))

-- ---- what is counted

rows_few : (k : Config) (w : World) → Sound k w → (m : ℕ) → length (rows_of (w.box m).log) ≤ last_uid
rows_few k w S m =
    let log : List Change = (w.box m).log in
    omega (arith, added_few k w S m, length_replay [] log, ap length (uids-rows_after [] log), length-map (rows_of log) (λ (row : Row). row.uid))

every_any : {A : Type 0} (P : A → Type 0) (xs : List A) → ((x : A) → P x) → Every P xs
every_any P [] h = tt
every_any P (x ∷ xs) h = (h x, every_any P xs h)

counted : (k : Config) (w : World) → Sound k w → HasSmallNumbers k → HasShortTexts w → (m : ℕ) (status : Status) → IsStatus k (w.box m) status → status.uidvalidity ≡ k.uidvalidity → IsCounted status
counted k w S h short m status is validity =
    let rows : List Row = rows_of (w.box m).log in
    let size : Row → ℕ = λ (row : Row). length (text_with row.uid (w.box m).accepted).bytes in
    let few : length rows ≤ last_uid = rows_few k w S m in
    let P : Row → Type 0 = λ (row : Row). size row ≤ 4294967295 in
    let each : (row : Row) → P row = λ row. omega (arith, short_in w m row.uid short) in
    let sizes : sum_by size rows ≤ length rows * 4294967295 = sum_by-le size 4294967295 rows (all_of_every P rows (every_any P rows each)) in record {
      messages = omega (arith, few, is.messages);
      uidnext = omega (arith, is.uidnext, (S.small m).next);
      uidvalidity = omega (arith, validity, h.uidvalidity);
      unseen = omega (arith, few, is.unseen, count_by-le-length (λ (row : Row). not row.flags.seen) rows);
      deleted = omega (arith, few, is.deleted, count_by-le-length (λ (row : Row). row.flags.deleted) rows);
      size = omega (arith, few, is.size, sizes);
    }

-- ---- call by call

unmoved_seen : (w : World) (n : ℕ) (call : Call) (fault : MailFault) (v : World) → v ≡ w → Sees (view_of w n) (record { call = call; answer = Refused fault }) (view_of v n)
unmoved_seen w n call fault v e = record { leads = ap (λ (u : World). view_of u n) e; fits = tt }

pub was_refused : (n : ℕ) (w : World) (fault : MailFault) (why : Type 0) (v : World) → IsRefused n w fault why v → v ≡ w
was_refused n w Stranger why v m = m.0
was_refused n w Lapped why v m = m.0
was_refused n w Spent why v m = m.0
was_refused n w NoMemory why v m = m.0

pub turned_away : (k : Config) (n m : ℕ) (w : World) (fault : MailFault) (v : World) → IsTurnedAway k n m w fault v → v ≡ w
turned_away k n m w Stranger v t = t.1
turned_away k n m w Lapped v t = absurd t
turned_away k n m w Spent v t = t.1
turned_away k n m w NoMemory v t = t.1

look_seen : (k : Config) (w : World) (n : ℕ) (by_uid : Bool) (set : List SeqRange) (copied : List ℕ) (v : World) → Meets k n w (Look by_uid set) (Looked copied) v → Sees (view_of w n) (record { call = Look by_uid set; answer = Looked copied }) (view_of v n)
look_seen k w n by_uid set copied v (e, (s, is, counts)) = record { leads = (counts ∙ sym (the_view w n s is), ap (λ (u : World). view_of u n) e); fits = tt }

read_seen : (k : Config) (w : World) (n uid : ℕ) (mark : Bool) (row : Option read.Row) (v : World) → Sound k w → HasShortTexts w → Meets k n w (ReadCall uid mark) (Found row) v
    → Sees (view_of w n) (record { call = ReadCall uid mark; answer = Found row }) (view_of v n)
read_seen k w n uid mark row v S short (step, (s, is, (D, (kept, found)))) = record {
  leads = done_view k w n s 0 [] (seen_logged mark (rows_of (w.box s.mailbox).log) uid) v S.kept is refl D;
  fits = subst (λ (o : Option read.Row). IsRowOf uid o) (sym found)
      (row_named uid _ (rows_then (w.box s.mailbox) (seen_logged mark (rows_of (w.box s.mailbox).log) uid)) (λ r. (refl, omega (arith, short_in w s.mailbox uid short))));
}

count_seen : (k : Config) (w : World) (n i : ℕ) (status : Status) (v : World) → Sound k w → HasSmallNumbers k → HasShortTexts w → Meets k n w (Count i) (Counted status) v
    → Sees (view_of w n) (record { call = Count i; answer = Counted status }) (view_of v n)
count_seen k w n i status v S h short m = record { leads = ap (λ (u : World). view_of u n) m.0; fits = counted k w S h short i status m.2 m.3 }

alter_seen : (k : Config) (w : World) (n uid : ℕ) (op : FlagOp) (flags : Option Flags) (v : World) → Sound k w → Meets k n w (Alter uid op) (Altered flags) v
    → Sees (view_of w n) (record { call = Alter uid op; answer = Altered flags }) (view_of v n)
alter_seen k w n uid op flags v S (step, (s, is, (D, altered))) = record { leads = done_view k w n s 0 [] (flags_logged (rows_of (w.box s.mailbox).log) uid op) v S.kept is refl D; fits = tt }

all_pending : (w : World) (s : Session) → pending (w.box s.mailbox) s ≡ take (length (pending (w.box s.mailbox) s)) (drop s.cursor (w.box s.mailbox).log)
all_pending w s = sym (take-length (pending (w.box s.mailbox) s))

expunge_seen : (k : Config) (w : World) (n : ℕ) (uids : Option (List ℕ)) (met : List ℕ) (changes : List Change) (gone : ℕ) (v : World) → Sound k w → Meets k n w (ExpungeCall uids) (Expunged met changes gone) v
    → Sees (view_of w n) (record { call = ExpungeCall uids; answer = Expunged met changes gone }) (view_of v n)
expunge_seen k w n uids met changes gone v S (step, (s, is, (D, (S1, went)))) =
    let cut : changes ≡ take (length (pending (w.box s.mailbox) s)) (drop s.cursor (w.box s.mailbox).log) = S1.handed ∙ all_pending w s in record {
      leads = (
        S1.counted ∙ sym (the_view w n s is),
        done_view k w n s (length (pending (w.box s.mailbox) s)) (pending (w.box s.mailbox) s) (removals (in_set uids) (rows_of (w.box s.mailbox).log)) v S.kept is (all_pending w s) D
            ∙ ap (λ (cs : List Change). replay (view_of w n) cs) (sym S1.handed),
      );
      fits = may_be_shown k w S n s is (length (pending (w.box s.mailbox) s)) changes cut;
    }

feed_seen : (k : Config) (w : World) (n limit : ℕ) (met : List ℕ) (changes : List Change) (v : World) → Sound k w → Meets k n w (FeedCall limit) (Fed met changes) v
    → Sees (view_of w n) (record { call = FeedCall limit; answer = Fed met changes }) (view_of v n)
feed_seen k w n limit met changes v S (step, (s, is, (D, S1))) = record {
  leads = (
    S1.counted ∙ sym (the_view w n s is),
    done_view k w n s limit (take limit (pending (w.box s.mailbox) s)) [] v S.kept is refl D ∙ ap (λ (cs : List Change). replay (view_of w n) cs) (sym S1.handed),
  );
  fits = may_be_shown k w S n s is limit changes S1.handed;
}

-- messages were discarded: that is no session's event, and mailboxes only grow by it
pub discarded : (k : Config) (w : World) (n i : ℕ) (uids : List ℕ) (v : World) → Meets k n w (DiscardCall i uids) Discarded v → world.Step k w (world.Discard i (in_set (Some uids))) v
discarded k w n i uids v m = world.discards_them m.mailbox m.there m.logs m.made

pub record LeavesSession (w : World) (n : ℕ) (v : World) : Type 0 where
  pub session : v.session n ≡ w.session n
  pub grows : (m : ℕ) → Grows (w.box m) (v.box m)

pub discard_leaves : (k : Config) (w : World) (n i : ℕ) (uids : List ℕ) (v : World) → Meets k n w (DiscardCall i uids) Discarded v → LeavesSession w n v
discard_leaves k w n i uids v m =
    let event : world.Event = world.Discard i (in_set (Some uids)) in
    let step : world.Step k w event v = discarded k w n i uids v m in
    record { session = session_stays k w event v n tt step; grows = λ j. goes_grows k (w.box j) (v.box j) (box_goes k w event v j step) }

discard_seen : (k : Config) (w : World) (n i : ℕ) (uids : List ℕ) (v : World) → Sound k w → Meets k n w (DiscardCall i uids) Discarded v
    → Sees (view_of w n) (record { call = DiscardCall i uids; answer = Discarded }) (view_of v n)
discard_seen k w n i uids v S m = let stays = discard_leaves k w n i uids v m in record { leads = view_kept k w v n S.kept stays.session stays.grows; fits = tt }

pub seen : (k : Config) (w : World) (n : ℕ) (call : Call) (answer : Answer) (v : World) → Sound k w → HasSmallNumbers k → HasShortTexts w → Meets k n w call answer v
    → Sees (view_of w n) (record { call = call; answer = answer }) (view_of v n)
seen k w n (EnterCall i) (Entered opening) v S h short m = record { leads = tt; fits = tt }
seen k w n (EnterCall i) (Refused fault) v S h short m = unmoved_seen w n (EnterCall i) fault v (turned_away k n i w fault v m)
seen k w n (Look by_uid set) (Looked copied) v S h short m = look_seen k w n by_uid set copied v m
seen k w n (Look by_uid set) (Refused fault) v S h short m = unmoved_seen w n (Look by_uid set) fault v (was_refused n w fault _ v m)
seen k w n (ReadCall uid mark) (Found row) v S h short m = read_seen k w n uid mark row v S short m
seen k w n (ReadCall uid mark) (Refused fault) v S h short m = unmoved_seen w n (ReadCall uid mark) fault v (was_refused n w fault _ v m)
seen k w n (Count i) (Counted status) v S h short m = count_seen k w n i status v S h short m
seen k w n (Count i) (Refused fault) v S h short m = unmoved_seen w n (Count i) fault v m.0
seen k w n (Alter uid op) (Altered flags) v S h short m = alter_seen k w n uid op flags v S m
seen k w n (Alter uid op) (Refused fault) v S h short m = unmoved_seen w n (Alter uid op) fault v (was_refused n w fault _ v m)
seen k w n (ExpungeCall uids) (Expunged met changes gone) v S h short m = expunge_seen k w n uids met changes gone v S m
seen k w n (ExpungeCall uids) (Refused fault) v S h short m = unmoved_seen w n (ExpungeCall uids) fault v (was_refused n w fault _ v m)
seen k w n (FeedCall limit) (Fed met changes) v S h short m = feed_seen k w n limit met changes v S m
seen k w n (FeedCall limit) (Refused fault) v S h short m = unmoved_seen w n (FeedCall limit) fault v (was_refused n w fault _ v m)
seen k w n (LeaveCall remove) (Left gone) v S h short m = record { leads = tt; fits = tt }
seen k w n (LeaveCall remove) (Refused fault) v S h short m = unmoved_seen w n (LeaveCall remove) fault v (was_refused n w fault _ v m)
seen k w n (DiscardCall i uids) Discarded v S h short m = discard_seen k w n i uids v S m
seen k w n (DiscardCall i uids) (Refused fault) v S h short m = unmoved_seen w n (DiscardCall i uids) fault v m.0
seen k w n _ _ v _ h short m = absurd m

pub calls_are_seen : CallsAreSeen
calls_are_seen k events w n call answer v h is short m = seen k w n call answer v (sound_always k events w h is) h short m

-- ---- entering and leaving

pub entered : (k : Config) (w : World) (n i : ℕ) (v : World) → world.EnterStep k w n i v → (s : Session) → v.session n ≡ Some s → view_of v n ≡ messages_of (w.box i)
entered k w n i v (enters a b c d e) s is =
    let log : List Change = (w.box i).log in
    let there : Option Session = Some (record { mailbox = i; start = length log; cursor = length log; shown = [] }) in
    ap (λ (u : World). view_of u n) e
    ∙ ap (view_in (record w { session = set_at w.session n there; opened = set_at w.opened i (w.opened i + 1) })) (set_at-same w.session n there)
    ∙ ap (replay []) (take-length log)
    ∙ sym (uids-rows_after [] log)
entered k w n i v (enter_spent a b c d e) s is = absurd (none-some s (sym c ∙ ap (λ (u : World). u.session n) (sym e) ∙ is))
entered k w n i v (enter_no_memory a b c d e) s is = absurd (none-some s (sym c ∙ ap (λ (u : World). u.session n) (sym e) ∙ is))

pub opened : (k : Config) (w : World) (n i : ℕ) (opening : Opening) (v : World) → HasSmallNumbers k → Sound k w → Meets k n w (EnterCall i) (Entered opening) v → IsOpened k opening (w.box i) (view_of v n)
opened k w n i opening v h S (step, (s, there, mine), opens, validity) =
    let view : view_of v n ≡ messages_of (w.box i) = entered k w n i v step s there in
    let rows : List Row = rows_of (w.box i).log in record {
      all = view;
      count = opens.0 ∙ sym (length-map rows (λ (row : Row). row.uid)) ∙ ap length (sym view);
      few = omega (arith, opens.0, rows_few k w S i);
      validity = validity;
      uidvalidity = omega (arith, validity, h.uidvalidity);
      uidnext = omega (arith, opens.1, (S.small i).next);
    }

pub entries_are_counted : EntriesAreCounted
entries_are_counted k events w n i opening v h is m = opened k w n i opening v h (sound_always k events w h is) m

pub leavers_count_nothing : LeaversCountNothing
leavers_count_nothing k w n remove gone v m = ap (view_in v) m.1
