-- What each consumer answered, said of what was taken of the queues; and elements by their positions.
use Rattle.std.proofs.Common.{◌≡◌, ◌<◌, ◌+◌, ◌++◌, ◌∙◌, ℕ, zero, suc, true, false, Bool, List, [], ◌∷◌, All, None, Some, length, map, slice_get, slice_index_or, refl, sym, ap, subst, arith}
use Rattle.std.proofs.lemmas.List.Elements.{All-cons, All-nil, All-head, All-tail}
use Rattle.delivery_token.specs.declared.Job.{Job}
use Rattle.delivery_token.specs.declared.log.Noted.{Noted}
use Rattle.shard_queue.specs.declared.lane.Entry.{Entry}
use Rattle.shard_queue.specs.declared.lane.Entry.TheVariants.{End}
use Rattle.shard_queue.specs.Permits.{Closed}
use Rattle.shard_queue.specs.Permits.{Ended}
use Rattle.shard_queue.specs.Reply.{ReceiverPermit}
use Rattle.shard_queue.specs.Reply.{ReplyClosed}
use Rattle.shard_queue.specs.Lane.{of}
use Rattle.shard_queue.specs.Reply.{reply_history}
use Rattle.shard_queue.specs.Permits.{got, history, said}
use Rattle.lane_work.specs.Answering.{WereAnswered}
use Rattle.lane_work.specs.declared.consumer.Consumed.{Consumed}
use Rattle.lane_work.specs.declared.worker.Fate.{Fate}
use Rattle.lane_work.specs.declared.worker.Fate.TheVariants as fates
use Rattle.lane_work.specs.SharedLanes.{AllIn, AreIn}
use Rattle.lane_work.proofs.CloseLaws as lanes
use Rattle.shard_queue.specs.Reply.{is_of}
use Rattle.house_shared.specs.Crew.{AllAt}
use Rattle.house_shared.specs.declared.shared.HouseShared.{HouseShared}
use Rattle.house_shared.specs.Left.{IsServiceOf}
use Rattle.reckoning.specs.Closing.{AreChannelsClosedWith, AreClosedWith}
use Rattle.reckoning.specs.Gathered.{fault_of_consumer, fault_of_fate}
use Rattle.reckoning.proofs.Parts.{some_at, taken_of}

-- ---- by their positions

pub at_position : {A : Type 0} (P : ℕ → A → Type 0) (n k : ℕ) (xs : List A) (x : A) → AllAt P n xs → slice_get xs k ≡ Some x → P (n + k) x
at_position P n k [] x all is = absurd (cc)
at_position P n zero (y ∷ xs) x all is =
    let same : y ≡ x = cc in
    let e : n ≡ n + 0 = omega arith in
    subst (λ i. P i x) e (subst (P n) same all.0)
at_position P n (suc k) (y ∷ xs) x all is =
    let e : suc n + k ≡ n + suc k = omega arith in
    subst (λ i. P i x) e (at_position P (suc n) k xs x all.1 is)

pub in_at : {A E : Type 0} (f : A → List E) (xs : List A) (lists : List (List E)) (k : ℕ) (x : A) → AllIn (map f xs) lists → slice_get xs k ≡ Some x → AreIn (f x) lists
in_at f [] lists k x all is = absurd (cc)
in_at f (y ∷ xs) lists zero x all is =
    let same : y ≡ x = cc in
    subst (λ z. AreIn (f z) lists) same all.0
in_at f (y ∷ xs) lists (suc k) x all is = in_at f xs lists k x all.1 is

pub all_at : {A : Type 0} (P : A → Type 0) (xs : List A) (k : ℕ) (x : A) → All P xs → slice_get xs k ≡ Some x → P x
all_at P [] k x all is = absurd (cc)
all_at P (y ∷ xs) zero x all is = let same : y ≡ x = cc in subst P same (All-head P y xs all)
all_at P (y ∷ xs) (suc k) x all is = all_at P xs k x (All-tail P y xs all) is

pub mapped_at : {A B : Type 0} (f : A → B) (xs : List A) (k : ℕ) (x : A) (d : B) → slice_get xs k ≡ Some x → slice_index_or (map f xs) k d ≡ f x
mapped_at f [] k x d is = absurd (cc)
mapped_at f (y ∷ xs) zero x d is = let same : y ≡ x = cc in ap f same
mapped_at f (y ∷ xs) (suc k) x d is = mapped_at f xs k x d is

-- ---- faults that weren't

pub whole_of : (f : Fate) → fault_of_fate f ≡ None → f ≡ fates.Whole
whole_of fates.Whole is = refl
whole_of fates.NotBegun is = absurd (cc)
whole_of fates.NoMemory is = absurd (cc)
whole_of fates.Torn is = absurd (cc)

-- ---- what was taken

pub kept_of : {B : Type 0} (cs : List (Consumed B)) → All (λ c. fault_of_consumer c ≡ None) cs → All (λ c. c.kept ≡ true) cs
kept_of [] all = All-nil (λ (c : Consumed _). c.kept ≡ true)
kept_of (c ∷ cs) all =
    All-cons (λ (d : Consumed _). d.kept ≡ true) c cs (by_cases c.kept refl) (kept_of cs (All-tail (λ (d : Consumed _). fault_of_consumer d ≡ None) c cs all))
  where
    by_cases : (b : Bool) → c.kept ≡ b → c.kept ≡ true
    by_cases true is = is
    by_cases false is =
        let none = All-head (λ (d : Consumed _). fault_of_consumer d ≡ None) c cs all in
        absurd (cc)

-- what the consumers kept is what was taken
pub all_taken : {B : Type 0} (shared : HouseShared B) (cs : List (Consumed B)) (closed : List (Closed Job)) (hands : List (List (Ended Job)))
    → AllAt (IsServiceOf shared) 0 cs → length cs ≡ length shared.intake.lanes.items → All (λ c. fault_of_consumer c ≡ None) cs
    → AreClosedWith shared.intake.lanes.items hands (map (λ c. c.permit) cs) closed
    → map (λ c. c.taken.items) cs ≡ map history closed
all_taken shared cs closed hands all count services are =
    taken_of shared 0 cs all (omega (arith, count)) (kept_of cs services) ∙ sym (lanes.histories_taken are.2 ∙ twice cs)
  where
    twice : {C : Type 0} (ds : List (Consumed C)) → map got (map (λ (c : Consumed C). c.permit) ds) ≡ map (λ (c : Consumed C). got c.permit) ds
    twice [] = refl
    twice (d ∷ ds) = ap (λ xs. got d.permit ∷ xs) (twice ds)

-- ---- answers

-- nothing had been said before
none_at : (before : List (List (Entry Noted))) (p : ℕ) → All (λ e. e ≡ []) before → slice_index_or before p [] ≡ []
none_at [] p all = refl
none_at (b ∷ before) zero all = All-head (λ (e : List (Entry Noted)). e ≡ []) b before all
none_at (b ∷ before) (suc p) all = none_at before p (All-tail (λ (e : List (Entry Noted)). e ≡ []) b before all)

of_at : (s : ℕ) (xs : List (List (Entry Noted))) (p : ℕ) → of s (slice_index_or xs p []) ≡ slice_index_or (map (of s) xs) p []
of_at s [] p = refl
of_at s (x ∷ xs) zero = refl
of_at s (x ∷ xs) (suc p) = of_at s xs p

got_twice : {B : Type 0} (cs : List (Consumed B)) → map got (map (λ (c : Consumed B). c.permit) cs) ≡ map (λ (c : Consumed B). got c.permit) cs
got_twice [] = refl
got_twice (c ∷ cs) = ap (λ xs. got c.permit ∷ xs) (got_twice cs)

-- what each consumer told each producer, of what it had taken, and then its end
pub answers_of : {B : Type 0} (shared : HouseShared B) (cs : List (Consumed B)) (closed : List (Closed Job)) (hands : List (List (Ended Job))) (replied : List (ReplyClosed Noted)) (receivers : List (ReceiverPermit Noted))
    → AllAt (IsServiceOf shared) 0 cs → length cs ≡ length shared.intake.lanes.items
    → AreClosedWith shared.intake.lanes.items hands (map (λ c. c.permit) cs) closed
    → AreChannelsClosedWith shared.delivery.channels.items (map (λ c. c.senders.items) cs) receivers replied
    → (s p : ℕ) → s < length shared.intake.lanes.items → p < length shared.delivery.channels.items
    → (told : List (Entry Noted)) × WereAnswered (length shared.delivery.mailboxes.items) s p (slice_index_or (map history closed) s []) told
    × (of s (slice_index_or (map reply_history replied) p []) ≡ told ++ End s ∷ [])
answers_of shared cs closed hands replied receivers all count are heard s p lane channel =
    let c = some_at cs s (omega (arith, lane, count)) in
    let q = some_at shared.intake.lanes.items s lane in
    let e : 0 + s ≡ s = omega arith in
    let service : IsServiceOf shared s c.0 = subst (λ i. IsServiceOf shared i c.0) e (at_position (IsServiceOf shared) 0 s cs c.0 all c.1) in
    let left = service.each q.0 q.1 in
    let said = left.2.said p channel in
    let taken : slice_index_or (map history closed) s [] ≡ got c.0.permit =
    ap (λ xs. slice_index_or xs s []) (lanes.histories_taken are.2 ∙ got_twice cs) ∙ mapped_at (λ (d : Consumed _). got d.permit) cs s c.0 [] c.1 in
    let own = lanes.said_is_history heard.2 is_of s c.0.senders.items left.2.senders (in_at (λ (d : Consumed _). d.senders.items) cs heard.0 s c.0 heard.1 c.1) in (
      said.0,
      subst (λ entries. WereAnswered (length shared.delivery.mailboxes.items) s p entries said.0) (sym taken) said.1,
      of_at s (map reply_history replied) p ∙ ap (λ xs. slice_index_or xs p []) (sym own) ∙ said.2 ∙ ap (λ b. (b ++ said.0) ++ End s ∷ []) (none_at left.0 p left.1),
    )
