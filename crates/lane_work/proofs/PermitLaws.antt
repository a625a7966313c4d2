-- Permits in a row.
use Rattle.std.proofs.Common.{◌≡◌, ℕ, zero, suc, ◌<◌, ◌++◌, ◌∙◌, ap, refl, sym, subst, List, [], ◌∷◌, length, map, slice_index_or, slice_set, take, drop, ◌+◌, append_assoc, append-nil, Bool, true, false, arith, Option, Some, None, MatchOption, All}
use Rattle.std.proofs.lemmas.List.{map-append, map-set, length-map}
use Rattle.std.proofs.lemmas.List.Elements.{filter_map-append, All-cons, All-head, All-nil, All-tail}
use Rattle.delivery_token.specs.declared.Verdict.{Verdict}
use Rattle.shard_queue.specs.declared.lane.Entry.TheVariants.{Item, End}
use Rattle.delivery_token.specs.declared.Job.{Job}
use Rattle.shard_queue.specs.Permits.{ShardQueue, Ended, IsEnded, ended_number, said}
use Rattle.lane_work.specs.declared.desk.LanePermit.{LanePermit}
use Rattle.delivery_token.specs.declared.log.Noted.{Noted}
use Rattle.shard_queue.specs.Reply.{ReplyChannel, SenderPermit, SenderEnded, IsSender, IsSenderEnded, said_on, sender_number, sender_ended_number, sent_on}
use Rattle.shard_queue.specs.declared.lane.Entry.{Entry}
use Rattle.shard_queue.specs.Permits as queues
use Rattle.shard_queue.specs.Reply as channels
use Rattle.lane_work.specs.declared.desk.LanePermit.TheVariants.{Live}
use Rattle.lane_work.specs.SharedLanes.{AreNew}
use Rattle.lane_work.specs.Ends.{ends_in}
use Rattle.lane_work.specs.Permits.{AreEnded, ArePermits, AreSenders, AreSendersEnded, AreLive, AreShutWhereOver, IsNew, IsPermit, is_over, overs, put_by, permit_number}
use Rattle.envelope.specs.Names.{Directory}
use Rattle.lane_work.specs.Account.{FilledAlone, IsAtOnce, Room, room_at, room_of, rooms_of}

pub permits_length : (qs : List (ShardQueue Job)) (p : ℕ) (ss : List (LanePermit Job)) → ArePermits qs p ss → length ss ≡ length qs
permits_length [] p [] h = refl
permits_length [] p (s ∷ ss) h = absurd h
permits_length (q ∷ qs) p [] h = absurd h
permits_length (q ∷ qs) p (s ∷ ss) h = ap suc (permits_length qs p ss h.1)

pub permit_at : (qs : List (ShardQueue Job)) (p : ℕ) (ss : List (LanePermit Job)) → ArePermits qs p ss → (i : ℕ) → i < length qs → (q : ShardQueue Job) (s : LanePermit Job)
    → IsPermit (slice_index_or qs i q) (slice_index_or ss i s) × (permit_number (slice_index_or ss i s) ≡ p)
permit_at [] p ss h i under q s = absurd (omega arith)
permit_at (x ∷ qs) p [] h i under q s = absurd h
permit_at (x ∷ qs) p (y ∷ ss) h zero under q s = h.0
permit_at (x ∷ qs) p (y ∷ ss) h (suc i) under q s = permit_at qs p ss h.1 i (omega arith) q s

pub permits_set : (qs : List (ShardQueue Job)) (p : ℕ) (ss : List (LanePermit Job)) → ArePermits qs p ss → (i : ℕ) (q : ShardQueue Job) (s : LanePermit Job)
    → IsPermit (slice_index_or qs i q) s → permit_number s ≡ p → ArePermits qs p (slice_set ss i s)
permits_set [] p [] h i q s is number = h
permits_set [] p (y ∷ ss) h i q s is number = absurd h
permits_set (x ∷ qs) p [] h i q s is number = absurd h
permits_set (x ∷ qs) p (y ∷ ss) h zero q s is number = ((is, number), h.1)
permits_set (x ∷ qs) p (y ∷ ss) h (suc i) q s is number = (h.0, permits_set qs p ss h.1 i q s is number)

pub sent_at : (ss : List (LanePermit Job)) (i : ℕ) (d : LanePermit Job) → i < length ss → slice_index_or (map put_by ss) i [] ≡ put_by (slice_index_or ss i d)
sent_at [] i d under = absurd (omega arith)
sent_at (s ∷ ss) zero d under = refl
sent_at (s ∷ ss) (suc i) d under = sent_at ss i d (omega arith)

pub sent_set : (ss : List (LanePermit Job)) (i : ℕ) (s : LanePermit Job) → map put_by (slice_set ss i s) ≡ slice_set (map put_by ss) i (put_by s)
sent_set ss i s = map-set put_by ss i s

-- ---- permits that are over

pub overs_length : (ss ts : List (LanePermit Job)) → overs ss ≡ overs ts → length ss ≡ length ts
overs_length ss ts same = sym (length-map ss is_over) ∙ ap length same ∙ length-map ts is_over

pub over_at : (ss : List (LanePermit Job)) (i : ℕ) (s : LanePermit Job) (d : Bool) → i < length ss → s ≡ slice_index_or ss i s → slice_index_or (overs ss) i d ≡ is_over s
over_at [] i s d under is = absurd (omega arith)
over_at (x ∷ ss) zero s d under is = ap is_over (sym is)
over_at (x ∷ ss) (suc i) s d under is = over_at ss i s d (omega arith) is

pub overs_kept : (ss : List (LanePermit Job)) (i : ℕ) (old new : LanePermit Job) → old ≡ slice_index_or ss i old → is_over new ≡ is_over old → overs (slice_set ss i new) ≡ overs ss
overs_kept [] i old new is same = refl
overs_kept (x ∷ ss) zero old new is same = ap (λ b. b ∷ overs ss) (same ∙ ap is_over is)
overs_kept (x ∷ ss) (suc i) old new is same = ap (λ l. is_over x ∷ l) (overs_kept ss i old new is same)

pub live_at : (ss : List (LanePermit Job)) (i : ℕ) → AreLive ss → slice_index_or (overs ss) i false ≡ false
live_at [] i h = refl
live_at (x ∷ ss) zero h = All-head (λ permit. is_over permit ≡ false) x ss h
live_at (x ∷ ss) (suc i) h = live_at ss i (All-tail (λ permit. is_over permit ≡ false) x ss h)

pub not_live : (ss ts : List (LanePermit Job)) (i : ℕ) → ss ≡ ts → AreLive ts → slice_index_or (overs ss) i false ≡ true → ⊥
not_live ss ts i same live over = let e : true ≡ false = sym over ∙ ap (λ l. slice_index_or (overs l) i false) same ∙ live_at ts i live in cc

-- the same ones are over
pub live_still : (ss ts : List (LanePermit Job)) → overs ts ≡ overs ss → AreLive ss → AreLive ts
live_still ss [] same h = All-nil (λ permit. is_over permit ≡ false)
live_still [] (t ∷ ts) same h = absurd (let e : is_over t ∷ overs ts ≡ [] = same in cc)
live_still (s ∷ ss) (t ∷ ts) same h =
    let one : is_over t ≡ is_over s = let e : is_over t ∷ overs ts ≡ is_over s ∷ overs ss = same in cc in
    let more : overs ts ≡ overs ss = let e : is_over t ∷ overs ts ≡ is_over s ∷ overs ss = same in cc in
    All-cons (λ permit. is_over permit ≡ false) t ts (one ∙ All-head (λ permit. is_over permit ≡ false) s ss h) (live_still ss ts more (All-tail (λ permit. is_over permit ≡ false) s ss h))

pub new_live : (ss : List (LanePermit Job)) → All IsNew ss → AreLive ss
new_live [] h = All-nil (λ permit. is_over permit ≡ false)
new_live (s ∷ ss) h = All-cons (λ permit. is_over permit ≡ false) s ss (All-head IsNew s ss h).1 (new_live ss (All-tail IsNew s ss h))

pub not_over : (directory : Directory) (ss : List (LanePermit Job)) → AreLive ss → AreShutWhereOver directory ss
not_over directory ss live lane over = absurd (let e : true ≡ false = sym over ∙ live_at ss lane live in cc)

pub set_same : {A : Type 0} (xs : List A) (i : ℕ) (d : A) → slice_set xs i (slice_index_or xs i d) ≡ xs
set_same [] i d = refl
set_same (x ∷ xs) zero d = refl
set_same (x ∷ xs) (suc i) d = ap (λ l. x ∷ l) (set_same xs i d)

pub room_here : (qs : List (ShardQueue Job)) (i : ℕ) (q : ShardQueue Job) → i < length qs → room_at (rooms_of qs) i ≡ room_of (slice_index_or qs i q)
room_here [] i q under = absurd (omega arith)
room_here (x ∷ qs) zero q under = refl
room_here (x ∷ qs) (suc i) q under = room_here qs i q (omega arith)

-- what a put at one permit makes of all lists
pub puts_at : (ss : List (LanePermit Job)) (i : ℕ) (p : ℕ) (d old new : LanePermit Job) (job : Job) (verdict : Option Verdict) (room same : Room) → same ≡ room
    → i < length ss → old ≡ slice_index_or ss i d → permit_number old ≡ p
    → MatchOption verdict (put_by new ≡ put_by old ++ Item (permit_number old) job ∷ []) (λ v. (put_by new ≡ put_by old) × IsAtOnce (FilledAlone room (permit_number old) (put_by old)) v)
    → MatchOption verdict (map put_by (slice_set ss i new) ≡ slice_set (map put_by ss) i (slice_index_or (map put_by ss) i [] ++ Item p job ∷ []))
    (λ v. (map put_by (slice_set ss i new) ≡ map put_by ss) × IsAtOnce (FilledAlone same p (slice_index_or (map put_by ss) i [])) v)
puts_at ss i p d old new job None room same rooms under is number put =
    sent_set ss i new ∙ ap (slice_set (map put_by ss) i) (put ∙ ap (λ n. put_by old ++ Item n job ∷ []) number ∙ ap (λ l. l ++ Item p job ∷ []) (ap put_by is ∙ sym (sent_at ss i d under)))
puts_at ss i p d old new job (Some v) room same rooms under is number put =
    let here : put_by old ≡ slice_index_or (map put_by ss) i [] = ap put_by is ∙ sym (sent_at ss i d under) in
    let one = subst (λ (n : ℕ). IsAtOnce (FilledAlone room n (put_by old)) v) number put.1 in
    let two = subst (λ (l : List (Entry Job)). IsAtOnce (FilledAlone room p l) v) here one in (
      sent_set ss i new ∙ ap (slice_set (map put_by ss) i) (put.0 ∙ here) ∙ set_same (map put_by ss) i [],
      subst (λ (r : Room). IsAtOnce (FilledAlone r p (slice_index_or (map put_by ss) i [])) v) (sym rooms) two,
    )

-- the same, where the lane is named by its position
pub permit_here : (qs : List (ShardQueue Job)) (p : ℕ) (ss : List (LanePermit Job)) → ArePermits qs p ss → (i : ℕ) → i < length qs → (q : ShardQueue Job) (s : LanePermit Job)
    → s ≡ slice_index_or ss i s → IsPermit (slice_index_or qs i q) s × (permit_number s ≡ p)
permit_here qs p ss h i under q s se =
    let both = permit_at qs p ss h i under q s in
    (subst (λ (x : LanePermit Job). IsPermit (slice_index_or qs i q) x) (sym se) both.0, ap permit_number se ∙ both.1)

-- ---- senders in a row

pub senders_length : (cs : List (ReplyChannel Noted)) (p : ℕ) (ss : List (SenderPermit Noted)) → AreSenders cs p ss → length ss ≡ length cs
senders_length [] p [] h = refl
senders_length [] p (s ∷ ss) h = absurd h
senders_length (q ∷ qs) p [] h = absurd h
senders_length (q ∷ qs) p (s ∷ ss) h = ap suc (senders_length qs p ss h.1)

pub sender_at : (qs : List (ReplyChannel Noted)) (p : ℕ) (ss : List (SenderPermit Noted)) → AreSenders qs p ss → (i : ℕ) → i < length qs → (q : ReplyChannel Noted) (s : SenderPermit Noted)
    → IsSender (slice_index_or qs i q) (slice_index_or ss i s) × (sender_number (slice_index_or ss i s) ≡ p)
sender_at [] p ss h i under q s = absurd (omega arith)
sender_at (x ∷ qs) p [] h i under q s = absurd h
sender_at (x ∷ qs) p (y ∷ ss) h zero under q s = h.0
sender_at (x ∷ qs) p (y ∷ ss) h (suc i) under q s = sender_at qs p ss h.1 i (omega arith) q s

pub senders_set : (qs : List (ReplyChannel Noted)) (p : ℕ) (ss : List (SenderPermit Noted)) → AreSenders qs p ss → (i : ℕ) (q : ReplyChannel Noted) (s : SenderPermit Noted)
    → IsSender (slice_index_or qs i q) s → sender_number s ≡ p → AreSenders qs p (slice_set ss i s)
senders_set [] p [] h i q s is number = h
senders_set [] p (y ∷ ss) h i q s is number = absurd h
senders_set (x ∷ qs) p [] h i q s is number = absurd h
senders_set (x ∷ qs) p (y ∷ ss) h zero q s is number = ((is, number), h.1)
senders_set (x ∷ qs) p (y ∷ ss) h (suc i) q s is number = (h.0, senders_set qs p ss h.1 i q s is number)

pub sender_here : (qs : List (ReplyChannel Noted)) (p : ℕ) (ss : List (SenderPermit Noted)) → AreSenders qs p ss → (i : ℕ) → i < length qs → (q : ReplyChannel Noted) (s : SenderPermit Noted)
    → s ≡ slice_index_or ss i s → IsSender (slice_index_or qs i q) s × (sender_number s ≡ p)
sender_here qs p ss h i under q s se =
    let both = sender_at qs p ss h i under q s in
    (subst (λ (x : SenderPermit Noted). IsSender (slice_index_or qs i q) x) (sym se) both.0, ap sender_number se ∙ both.1)

-- ---- permits that are ended one after another

-- the first of those that are left
pub first_permit : (qs : List (ShardQueue Job)) (i : ℕ) (p : ℕ) (ss : List (LanePermit Job)) → i < length qs → ArePermits (drop i qs) p ss → (q : ShardQueue Job) (s : LanePermit Job) → s ≡ slice_index_or ss 0 s
    → IsPermit (slice_index_or qs i q) s × (permit_number s ≡ p) × (ss ≡ s ∷ drop 1 ss) × ArePermits (drop (i + 1) qs) p (drop 1 ss)
first_permit [] i p ss under h q s is = absurd (omega arith)
first_permit (x ∷ qs) zero p [] under h q s is = absurd h
first_permit (x ∷ qs) zero p (y ∷ ss) under h q s is =
    (subst (λ (k : LanePermit Job). IsPermit x k) (sym is) h.0.0, ap permit_number is ∙ h.0.1, ap (λ k. k ∷ ss) (sym is), h.1)
first_permit (x ∷ qs) (suc i) p ss under h q s is =
    let r = first_permit qs i p ss (omega arith) h q s is in
    let e : suc i + 1 ≡ suc (i + 1) = omega arith in
    (r.0, r.1, r.2, subst (λ n. ArePermits (drop n (x ∷ qs)) p (drop 1 ss)) (sym e) r.3)

pub ended_next : (qs : List (ShardQueue Job)) (i : ℕ) (p : ℕ) (es : List (Ended Job)) (e : Ended Job) → i < length qs → AreEnded (take i qs) p es → (q : ShardQueue Job) → IsEnded (slice_index_or qs i q) e → ended_number e ≡ p
    → AreEnded (take (i + 1) qs) p (es ++ e ∷ [])
ended_next [] i p es e under h q is number = absurd (omega arith)
ended_next (x ∷ qs) zero p [] e under h q is number = ((is, number), tt)
ended_next (x ∷ qs) zero p (y ∷ es) e under h q is number = absurd h
ended_next (x ∷ qs) (suc i) p [] e under h q is number = absurd h
ended_next (x ∷ qs) (suc i) p (y ∷ es) e under h q is number =
    let k : suc i + 1 ≡ suc (i + 1) = omega arith in
    subst (λ n. AreEnded (take n (x ∷ qs)) p (y ∷ es ++ e ∷ [])) (sym k) (h.0, ended_next qs i p es e (omega arith) h.1 q is number)

pub said_next : (p : ℕ) (es more : List (Ended Job)) (ss less : List (LanePermit Job)) (e : Ended Job) (s : LanePermit Job) (all : List (List (Entry Job)))
    → more ≡ es ++ e ∷ [] → ss ≡ s ∷ drop 1 ss → less ≡ drop 1 ss → permit_number s ≡ p → said e ≡ put_by s ++ End (permit_number s) ∷ []
    → map said es ++ map (λ entries. entries ++ End p ∷ []) (map put_by ss) ≡ map (λ entries. entries ++ End p ∷ []) all
    → map said more ++ map (λ entries. entries ++ End p ∷ []) (map put_by less) ≡ map (λ entries. entries ++ End p ∷ []) all
said_next p es more ss less e s all is first rest number says so =
    let close : List (Entry Job) → List (Entry Job) = λ entries. entries ++ End p ∷ [] in
    ap (λ l. map said l ++ map close (map put_by less)) is
    ∙ ap (λ l. l ++ map close (map put_by less)) (map-append said es (e ∷ []))
    ∙ append_assoc (map said es) (said e ∷ []) (map close (map put_by less))
    ∙ ap (λ l. map said es ++ l ∷ map close (map put_by less)) (says ∙ ap (λ n. put_by s ++ End n ∷ []) number)
    ∙ ap (λ l. map said es ++ close (put_by s) ∷ map close (map put_by l)) rest
    ∙ ap (λ l. map said es ++ map close (map put_by l)) (sym first)
    ∙ so

pub first_sender : (qs : List (ReplyChannel Noted)) (i : ℕ) (p : ℕ) (ss : List (SenderPermit Noted)) → i < length qs → AreSenders (drop i qs) p ss → (q : ReplyChannel Noted) (s : SenderPermit Noted) → s ≡ slice_index_or ss 0 s
    → IsSender (slice_index_or qs i q) s × (sender_number s ≡ p) × (ss ≡ s ∷ drop 1 ss) × AreSenders (drop (i + 1) qs) p (drop 1 ss)
first_sender [] i p ss under h q s is = absurd (omega arith)
first_sender (x ∷ qs) zero p [] under h q s is = absurd h
first_sender (x ∷ qs) zero p (y ∷ ss) under h q s is =
    (subst (λ (k : SenderPermit Noted). IsSender x k) (sym is) h.0.0, ap sender_number is ∙ h.0.1, ap (λ k. k ∷ ss) (sym is), h.1)
first_sender (x ∷ qs) (suc i) p ss under h q s is =
    let r = first_sender qs i p ss (omega arith) h q s is in
    let e : suc i + 1 ≡ suc (i + 1) = omega arith in
    (r.0, r.1, r.2, subst (λ n. AreSenders (drop n (x ∷ qs)) p (drop 1 ss)) (sym e) r.3)

pub sender_ended_next : (qs : List (ReplyChannel Noted)) (i : ℕ) (p : ℕ) (es : List (SenderEnded Noted)) (e : SenderEnded Noted) → i < length qs → AreSendersEnded (take i qs) p es → (q : ReplyChannel Noted)
    → IsSenderEnded (slice_index_or qs i q) e → sender_ended_number e ≡ p → AreSendersEnded (take (i + 1) qs) p (es ++ e ∷ [])
sender_ended_next [] i p es e under h q is number = absurd (omega arith)
sender_ended_next (x ∷ qs) zero p [] e under h q is number = ((is, number), tt)
sender_ended_next (x ∷ qs) zero p (y ∷ es) e under h q is number = absurd h
sender_ended_next (x ∷ qs) (suc i) p [] e under h q is number = absurd h
sender_ended_next (x ∷ qs) (suc i) p (y ∷ es) e under h q is number =
    let k : suc i + 1 ≡ suc (i + 1) = omega arith in
    subst (λ n. AreSendersEnded (take n (x ∷ qs)) p (y ∷ es ++ e ∷ [])) (sym k) (h.0, sender_ended_next qs i p es e (omega arith) h.1 q is number)

pub told_next : (p : ℕ) (es more : List (SenderEnded Noted)) (ss less : List (SenderPermit Noted)) (e : SenderEnded Noted) (s : SenderPermit Noted) (all : List (List (Entry Noted)))
    → more ≡ es ++ e ∷ [] → ss ≡ s ∷ drop 1 ss → less ≡ drop 1 ss → sender_number s ≡ p → said_on e ≡ sent_on s ++ End (sender_number s) ∷ []
    → map said_on es ++ map (λ entries. entries ++ End p ∷ []) (map sent_on ss) ≡ map (λ entries. entries ++ End p ∷ []) all
    → map said_on more ++ map (λ entries. entries ++ End p ∷ []) (map sent_on less) ≡ map (λ entries. entries ++ End p ∷ []) all
told_next p es more ss less e s all is first rest number says so =
    let close : List (Entry Noted) → List (Entry Noted) = λ entries. entries ++ End p ∷ [] in
    ap (λ l. map said_on l ++ map close (map sent_on less)) is
    ∙ ap (λ l. l ++ map close (map sent_on less)) (map-append said_on es (e ∷ []))
    ∙ append_assoc (map said_on es) (said_on e ∷ []) (map close (map sent_on less))
    ∙ ap (λ l. map said_on es ++ l ∷ map close (map sent_on less)) (says ∙ ap (λ n. sent_on s ++ End n ∷ []) number)
    ∙ ap (λ l. map said_on es ++ close (sent_on s) ∷ map close (map sent_on l)) rest
    ∙ ap (λ l. map said_on es ++ map close (map sent_on l)) (sym first)
    ∙ so

pub ends_next : {A : Type 0} (es : List (Entry A)) (e : Entry A) → ends_in (es ++ e ∷ []) ≡ ends_in es + ends_in (e ∷ [])
ends_next [] e = omega arith
ends_next (Item p x ∷ es) e = ends_next es e
ends_next (End p ∷ es) e = let h = ends_next es e in omega (arith, h)

-- the entries that are kept, after one more
pub kept_next : (got got' taken taken' : List (Entry Job)) (entry : Entry Job) (was kept : Bool) → got' ≡ got ++ entry ∷ [] → (was ≡ true → taken ≡ got)
    → (kept ≡ true → (was ≡ true) × (taken' ≡ taken ++ entry ∷ [])) → kept ≡ true → taken' ≡ got'
kept_next got got' taken taken' entry was kept new so keeps is =
    let k = keeps is in
    k.1 ∙ ap (λ l. l ++ entry ∷ []) (so k.0) ∙ sym new

-- ---- permits that were dealt

-- a producer's
pub new_permits : (qs : List (ShardQueue Job)) (p : ℕ) (ss : List (LanePermit Job)) → AreNew queues.view queues.is_of (λ permit. Live permit) qs p ss
    → ArePermits qs p ss × All IsNew ss
new_permits [] p [] h = (tt, All-nil IsNew)
new_permits [] p (x ∷ ss) h = absurd h
new_permits (q ∷ qs) p [] h = absurd h
new_permits (q ∷ qs) p (x ∷ ss) ((s, is, mine, number, none), more) =
    let rest = new_permits qs p ss more in
    let here : IsPermit q x × (permit_number x ≡ p) = subst (λ (y : LanePermit Job). IsPermit q y × (permit_number y ≡ p)) (sym is) (mine, number) in
    let new : IsNew x = subst IsNew (sym is) (none, refl) in
    ((here, rest.0), All-cons IsNew x ss new rest.1)

-- a consumer's
pub new_senders : (cs : List (ReplyChannel Noted)) (s : ℕ) (xs : List (SenderPermit Noted)) → AreNew channels.view channels.is_of (λ permit. permit) cs s xs
    → AreSenders cs s xs × All (λ x. sent_on x ≡ []) xs
new_senders [] s [] h = (tt, All-nil (λ (x : SenderPermit Noted). sent_on x ≡ []))
new_senders [] s (x ∷ xs) h = absurd h
new_senders (c ∷ cs) s [] h = absurd h
new_senders (c ∷ cs) s (x ∷ xs) ((y, is, mine, number, none), more) =
    let rest = new_senders cs s xs more in
    let here : IsSender c x × (sender_number x ≡ s) = subst (λ (z : SenderPermit Noted). IsSender c z × (sender_number z ≡ s)) (sym is) (mine, number) in
    ((here, rest.0), All-cons (λ (x : SenderPermit Noted). sent_on x ≡ []) x xs (subst (λ (z : SenderPermit Noted). sent_on z ≡ []) (sym is) none) rest.1)
