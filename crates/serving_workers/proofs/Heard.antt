-- What the workers leave, said of its parts in lists of their own.
use Rattle.std.proofs.Common.{◌≡◌, ◌<◌, ◌≤◌, ◌+◌, ◌++◌, ◌∙◌, ◌&&◌, ℕ, suc, Bool, true, false, append-nil, append_assoc, List, Option, [], ◌∷◌, All, length, length-append, map, drop, take, sym, ap, refl, slice_index_or, subst, Vec, vec_len, arith}
use Rattle.std.specs.List.{list_all}
use mathlib.Core.List.{IsPrefix}
use Rattle.std.specs.Global.{Global}
use Rattle.std.proofs.lemmas.List.{take_all, take_more}
use Rattle.std.proofs.lemmas.List.Elements.{All-append, All-cons, All-head, All-nil, All-tail, All-weaker}
use Rattle.shard_queue.specs.Permits.{Ended}
use Rattle.shard_queue.specs.Permits.{ShardQueue}
use Rattle.delivery_token.specs.declared.Job.{Job}
use Rattle.delivery_token.specs.declared.log.Noted.{Noted}
use Rattle.std.proofs.lemmas.List.{map-append}
use Rattle.shard_queue.specs.Reply.{received}
use Rattle.shard_queue.specs.Shared.{IsStartOf}
use Rattle.shard_queue.specs.Permits.{said}
use Rattle.shard_queue.specs.declared.lane.Entry.{Entry}
use Rattle.shard_queue.specs.declared.lane.Entry.TheVariants.{Item, End}
use Rattle.house_history.specs.declared.event.Event.{Event}
use Rattle.house_history.specs.Events.{sent_by}
use Rattle.house_history.specs.Legal.{Legal}
use Rattle.lane_work.specs.Backing.{IsBacked, IsShown}
use Rattle.lane_work.specs.Ends.{ends_in}
use Rattle.lane_work.proofs.BackingLaws.{backed_later, goes_farther}
use Rattle.lane_work.proofs.SlotLaws.{start_on, start_same}
use Rattle.lane_work.specs.Permits.{AreEnded}
use Rattle.lane_work.specs.declared.worker.Fate.{Fate}
use Rattle.lane_work.specs.declared.worker.Fate.TheVariants.{Whole, NotBegun, NoMemory, Torn}
use Rattle.lane_work.specs.declared.worker.Worked.{Worked}
use Rattle.lane_work.specs.LanePermits.{AreEndedHands}
use Rattle.lane_work.specs.ChannelPermits.{AreReceivers}
use Rattle.house_shared.specs.Crew.{AllAt}
use Rattle.house_shared.specs.declared.shared.HouseShared.{HouseShared}
use Rattle.reckoning.proofs.Laying.{laid_items}
use Rattle.reckoning.proofs.Parts.{from_here, past_all, some_at}
use Rattle.reckoning.proofs.Histories.{IsBackedAt}
use Rattle.serving_workers.specs.Closing.{GoOn}
use Rattle.serving_workers.specs.declared.accepting.Served.{Served}
use Rattle.serving_workers.specs.inner.Leaving.{HasHeard, is_whole}

ended_length : (qs : List (ShardQueue Job)) (p : ℕ) (es : List (Ended Job)) → AreEnded qs p es → length es ≡ length qs
ended_length [] p [] h = refl
ended_length [] p (e ∷ es) h = absurd h
ended_length (q ∷ qs) p [] h = absurd h
ended_length (q ∷ qs) p (e ∷ es) h = ap suc (ended_length qs p es h.1)

first_of : {A : Type 0} (xs rest : List A) (x : A) → 0 < length xs → x ≡ slice_index_or xs 0 x → rest ≡ drop 1 xs → xs ≡ x ∷ rest
first_of [] rest x some is less = absurd (omega (arith, some))
first_of {A} (y ∷ ys) rest x some is less = ap (λ (v : A). v ∷ ys) (sym is) ∙ ap (λ (v : List A). x ∷ v) (sym less)

-- one producer more was heard out
pub one_more : {B L : Type 0} (done new : List (Worked B)) (w : Worked B) (left rest : List (Served B L)) (s : Served B L) (all : List (List (Ended Job))) → map (λ w. w.ended.items) done ++ map (λ s. s.ended.items) left ≡ all
    → 0 < length left → s ≡ slice_index_or left 0 s → rest ≡ drop 1 left → new ≡ done ++ w ∷ [] → w.ended ≡ s.ended → map (λ w. w.ended.items) new ++ map (λ s. s.ended.items) rest ≡ all
one_more done new w left rest s all before some is less more same =
    laid_items (λ (w : Worked _). w.ended.items) (λ (s : Served _ _). s.ended.items) done new all left rest s w before (first_of left rest s some is less) more
    (ap (λ (v : Vec (Ended Job) Global). v.items) same)

-- and its line stands behind those of the others
pub one_line : {B L : Type 0} (done new : List (Option L)) (line : Option L) (left rest : List (Served B L)) (s : Served B L) (all : List (Option L)) → done ++ map (λ s. s.line) left ≡ all
    → 0 < length left → s ≡ slice_index_or left 0 s → rest ≡ drop 1 left → new ≡ done ++ line ∷ [] → line ≡ s.line → new ++ map (λ s. s.line) rest ≡ all
one_line {L = L} done new line left rest s all before some is less more same =
    let first : left ≡ s ∷ rest = first_of left rest s some is less in
    let tail : List (Option L) = map (λ (s : Served _ _). s.line) rest in
    ap (λ (l : List (Option L)). l ++ tail) more ∙ (append_assoc done (line ∷ []) tail ∙ (ap (λ (o : Option L). done ++ o ∷ tail) same
    ∙ (ap (λ (l : List (Served _ _)). done ++ map (λ (s : Served _ _). s.line) l) (sym first) ∙ before)))

pub all_lines : {B L : Type 0} (done all : List (Option L)) (left : List (Served B L)) → length left ≡ 0 → done ++ map (λ s. s.line) left ≡ all → done ≡ all
all_lines done all [] none are = sym (append-nil done) ∙ are
all_lines done all (s ∷ left) none are = absurd (omega (arith, none))

-- ---- what was heard

pub go_on_same : (lists : List (List (Entry Noted))) → GoOn lists lists
go_on_same [] = tt
go_on_same (list ∷ lists) = (start_same list, go_on_same lists)

-- one list went on
go_on_at : (all front back : List (List (Entry Noted))) (old new : List (Entry Noted)) → IsStartOf old new → GoOn all (front ++ old ∷ back) → GoOn all (front ++ new ∷ back)
go_on_at [] [] back old new grew are = absurd are
go_on_at [] (x ∷ front) back old new grew are = absurd are
go_on_at (first ∷ all) [] back old new grew are = (start_on first old new are.0 grew, are.1)
go_on_at (first ∷ all) (x ∷ front) back old new grew are = (are.0, go_on_at all front back old new grew are.1)

abbrev of_worked : {B : Type 0} → Worked B → List (Entry Noted)
of_worked w = received w.receiver

abbrev of_served : {B L : Type 0} → Served B L → List (Entry Noted)
of_served s = received s.receiver

pub one_heard : {B L : Type 0} (done new : List (Worked B)) (w : Worked B) (left rest : List (Served B L)) (s : Served B L) (all : List (List (Entry Noted))) → GoOn all (map of_worked done ++ map of_served left)
    → 0 < length left → s ≡ slice_index_or left 0 s → rest ≡ drop 1 left → new ≡ done ++ w ∷ [] → IsStartOf (received s.receiver) (received w.receiver)
    → GoOn all (map of_worked new ++ map of_served rest)
one_heard done new w left rest s all before some is less more grew =
    let first : left ≡ s ∷ rest = first_of left rest s some is less in
    let was : GoOn all (map of_worked done ++ received s.receiver ∷ map of_served rest) = subst (λ (l : List (Served _ _)). GoOn all (map of_worked done ++ map of_served l)) first before in
    let now = go_on_at all (map of_worked done) (map of_served rest) (received s.receiver) (received w.receiver) grew was in
    let e : map of_worked new ++ map of_served rest ≡ map of_worked done ++ received w.receiver ∷ map of_served rest =
    ap (λ (l : List (List (Entry Noted))). l ++ map of_served rest) (ap (λ (l : List (Worked _)). map of_worked l) more ∙ map-append of_worked done (w ∷ []))
    ∙ append_assoc (map of_worked done) (received w.receiver ∷ []) (map of_served rest) in
    subst (GoOn all) (sym e) now

pub all_heard : {B L : Type 0} (all : List (List (Entry Noted))) (done : List (Worked B)) (left : List (Served B L)) → length left ≡ 0 → GoOn all (map of_worked done ++ map of_served left) → GoOn all (map of_worked done)
all_heard all done [] none are = subst (GoOn all) (append-nil (map of_worked done)) are
all_heard all done (s ∷ left) none are = absurd (omega (arith, none))

-- ---- what the history has

pub whole_is : (fate : Fate) → is_whole fate ≡ true → fate ≡ Whole
whole_is Whole is = refl
whole_is NotBegun is = cc
whole_is NoMemory is = cc
whole_is Torn is = cc

both : (a b : Bool) → (a && b) ≡ true → (a ≡ true) × (b ≡ true)
both true b e = (refl, e)
both false b e = cc

-- each heard nothing but ends, so the history has what it put and heard
pub backed_each : {B : Type 0} (shared : HouseShared B) (n : ℕ) (ws : List (Worked B)) → AllAt (HasHeard shared) n ws → list_all (λ w. is_whole w.fate) ws ≡ true → AllAt IsBackedAt n ws
backed_each shared n [] all whole = tt
backed_each shared n (w ∷ ws) all whole =
    let b = both (is_whole w.fate) (list_all (λ v. is_whole v.fate) ws) whole in
    (all.0.backed b.0, backed_each shared (suc n) ws all.1 b.1)

module _ {B : Type 0} (shared : HouseShared B) where
  pub ended_of : (n : ℕ) (ws : List (Worked B)) → AllAt (HasHeard shared) n ws → AreEndedHands shared.intake.lanes.items n (map (λ w. w.ended.items) ws)
  ended_of n [] all = tt
  ended_of n (w ∷ ws) all = (all.0.ended, ended_of (suc n) ws all.1)

  pub receivers_of : (n : ℕ) (ws : List (Worked B)) → AllAt (HasHeard shared) n ws → n + length ws ≡ length shared.delivery.channels.items → AreReceivers (drop n shared.delivery.channels.items) (map (λ w. w.receiver) ws)
  receivers_of n [] all count = subst (λ cs. AreReceivers cs []) (sym (past_all shared.delivery.channels.items n (omega (arith, count)))) tt
  receivers_of n (w ∷ ws) all count =
      let channel = some_at shared.delivery.channels.items n (omega (arith, count)) in
      subst (λ cs. AreReceivers cs (w.receiver ∷ map (λ v. v.receiver) ws)) (sym (from_here shared.delivery.channels.items n channel.0 channel.1))
      (all.0.receiver channel.0 channel.1, receivers_of (suc n) ws all.1 (omega (arith, count)))

  pub lengths_of : (n : ℕ) (ws : List (Worked B)) → AllAt (HasHeard shared) n ws → All (λ (w : Worked B). vec_len w.ended ≡ length shared.intake.lanes.items) ws
  lengths_of n [] all = All-nil (λ (w : Worked B). vec_len w.ended ≡ length shared.intake.lanes.items)
  lengths_of n (w ∷ ws) all =
      let count = ended_length shared.intake.lanes.items n w.ended.items all.0.ended in
      All-cons (λ (v : Worked B). vec_len v.ended ≡ length shared.intake.lanes.items) w ws (omega (arith, count, w.ended.ok.0)) (lengths_of (suc n) ws all.1)
