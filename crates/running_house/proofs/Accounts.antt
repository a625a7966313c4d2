-- Each producer's account, said of what was taken of the queues.
use Rattle.std.proofs.Common.{◌≡◌, ◌<◌, ◌+◌, ◌∙◌, ℕ, suc, List, [], ◌∷◌, All, None, Some, Vec, length, map, slice_get, slice_index_or, refl, sym, ap, subst, arith, drop}
use Rattle.std.specs.Global.{Global}
use Rattle.delivery_token.specs.declared.Job.{Job}
use Rattle.delivery_token.specs.declared.log.Noted.{Noted}
use Rattle.shard_queue.specs.declared.lane.Entry.{Entry}
use Rattle.shard_queue.specs.Permits.{Closed}
use Rattle.shard_queue.specs.Permits.{ConsumerPermit}
use Rattle.shard_queue.specs.Reply.{ReplyClosed}
use Rattle.shard_queue.specs.Reply.{SenderEnded}
use Rattle.shard_queue.specs.Lane.{of}
use Rattle.shard_queue.specs.Reply.{received, reply_history}
use Rattle.shard_queue.specs.Permits.{history, said}
use Rattle.lane_work.specs.Account.{Account}
use Rattle.lane_work.specs.Awaiting.{copies_in, verdicts_in}
use Rattle.lane_work.specs.Speaking.{premises_of}
use Rattle.lane_work.specs.declared.worker.Fate.TheVariants as fates
use Rattle.lane_work.specs.declared.worker.Worked.{Worked}
use Rattle.lane_work.proofs.HistoryLaws.{are_heard, said_is_taken}
use Rattle.lane_work.proofs.CloseLaws as lanes
use Rattle.house_shared.specs.Crew.{AllAt}
use Rattle.house_shared.specs.declared.shared.HouseShared.{HouseShared}
use Rattle.house_shared.specs.declared.shared.Guest.{Guest}
use Rattle.house_history.specs.declared.event.Event.{Event}
use Rattle.house_history.specs.Events.{sent_by}
use Rattle.house_history.specs.Legal.{Legal}
use Rattle.lane_work.specs.Backing.{IsBacked}
use Rattle.lane_work.proofs.BackingLaws.{backed_later}
use Rattle.reckoning.specs.Histories.{IsKnownIn}
use Rattle.running_house.specs.Produced.{IsProduceOf, Plans, SessionAccount}
use Rattle.reckoning.specs.Closing.{AreChannelsClosedWith, AreClosedWith}
use Rattle.reckoning.specs.Gathered.{fault_of_fate}
use Rattle.shard_queue.specs.Permits.{numbers}
use Rattle.lane_work.specs.LanePermits.{AreEndedHands}
use Rattle.lane_work.specs.ChannelPermits.{AreReceivers}
use Rattle.reckoning.proofs.Accounts.{all_at, at_position, in_at, mapped_at, whole_of}
use Rattle.reckoning.proofs.Parts.{from_here, past_all, some_at}

module _ {B : Type 0} (shared : HouseShared B) (plans : Plans) (guests : List Guest) where
  pub ended_of : (n : ℕ) (ws : List (Worked B)) → AllAt (IsProduceOf shared plans guests) n ws → AreEndedHands shared.intake.lanes.items n (map (λ w. w.ended.items) ws)
  ended_of n [] all = tt
  ended_of n (w ∷ ws) all = (all.0.ended, ended_of (suc n) ws all.1)

  pub receivers_of : (n : ℕ) (ws : List (Worked B)) → AllAt (IsProduceOf shared plans guests) n ws → n + length ws ≡ length shared.delivery.channels.items → AreReceivers (drop n shared.delivery.channels.items) (map (λ w. w.receiver) ws)
  receivers_of n [] all count = subst (λ cs. AreReceivers cs []) (sym (past_all shared.delivery.channels.items n (omega (arith, count)))) tt
  receivers_of n (w ∷ ws) all count =
      let channel = some_at shared.delivery.channels.items n (omega (arith, count)) in
      subst (λ cs. AreReceivers cs (w.receiver ∷ map (λ v. v.receiver) ws)) (sym (from_here shared.delivery.channels.items n channel.0 channel.1))
      (all.0.receiver channel.0 channel.1, receivers_of (suc n) ws all.1 (omega (arith, count)))

  pub seats_of : (n : ℕ) (ws : List (Worked B)) → AllAt (IsProduceOf shared plans guests) n ws → map (λ w. w.log.seat) ws ≡ numbers n (length ws)
  seats_of n [] all = refl
  seats_of n (w ∷ ws) all = ap (λ s. s ∷ map (λ v. v.log.seat) ws) all.0.seat ∙ ap (λ ss. n ∷ ss) (seats_of (suc n) ws all.1)

-- ---- accounts

-- What each worker's connections came to, where these were its replies and its log.
abbrev pub HasAccount : {B : Type 0} (shared : HouseShared B) (plans : Plans) (replies : List (List (List ℕ))) (notes : List (List Noted)) (answers : List (List (Entry Noted))) (histories : List (List (Entry Job))) → ℕ → Type 0
HasAccount shared plans replies notes answers histories p =
    Account (premises_of shared.intake) p (slice_index_or (map (λ (w : Vec (Vec ℕ Global) Global). map (λ b. b.items) w.items) plans) p []) (slice_index_or replies p []) (slice_index_or notes p [])
    (slice_index_or answers p []) (map (of p) histories)

-- What the steps of the session with seat p came to.
abbrev pub HasSessionAccount : {B : Type 0} (shared : HouseShared B) (guest : Guest) (replies : List (List (List ℕ))) (notes : List (List Noted)) (answers : List (List (Entry Noted))) (histories : List (List (Entry Job))) → ℕ → Type 0
HasSessionAccount shared guest replies notes answers histories p =
    SessionAccount (premises_of shared.intake) (length shared.delivery.mailboxes.items) shared.turns p guest (slice_index_or replies p []) (slice_index_or notes p [])
    (slice_index_or answers p []) (map (of p) histories)

twice : {B : Type 0} (vs : List (Worked B)) → map received (map (λ (v : Worked B). v.receiver) vs) ≡ map (λ (v : Worked B). received v.receiver) vs
twice [] = refl
twice (v ∷ vs) = ap (λ xs. received v.receiver ∷ xs) (twice vs)

-- whatever holds of what one producer left holds of it where it lies among what all left
module _ {B : Type 0} (ws : List (Worked B)) (p : ℕ) (w : Worked B) (at : slice_get ws p ≡ Some w) (answers : List (List (Entry Noted))) (are : answers ≡ map (λ (v : Worked B). received v.receiver) ws)
    (P : List (List ℕ) → List Noted → List (Entry Noted) → Type 0) where
  pub among : P (map (λ b. b.items) w.replies.items) w.log.notes (received w.receiver)
      → P (slice_index_or (map (λ (v : Worked B). map (λ b. b.items) v.replies.items) ws) p []) (slice_index_or (map (λ (v : Worked B). v.log.notes) ws) p []) (slice_index_or answers p [])
  among here =
      let b = sym (mapped_at (λ (v : Worked B). map (λ b. b.items) v.replies.items) ws p w [] at) in
      let c = sym (mapped_at (λ (v : Worked B). v.log.notes) ws p w [] at) in
      let d = sym (ap (λ xs. slice_index_or xs p []) are ∙ mapped_at (λ (v : Worked B). received v.receiver) ws p w [] at) in
      subst (λ x. P x (slice_index_or (map (λ (v : Worked B). v.log.notes) ws) p []) (slice_index_or answers p [])) b
      (subst (λ x. P (map (λ b. b.items) w.replies.items) x (slice_index_or answers p [])) c
      (subst (λ x. P (map (λ b. b.items) w.replies.items) w.log.notes x) d here))

module _ {B : Type 0} (shared : HouseShared B) (plans : Plans) (guests : List Guest) (ws : List (Worked B)) (all : AllAt (IsProduceOf shared plans guests) 0 ws) (count : length ws ≡ length plans + length guests)
    (fine : All (λ w. fault_of_fate w.fate ≡ None) ws) (permits : List (ConsumerPermit Job)) (closed : List (Closed Job)) (are : AreClosedWith shared.intake.lanes.items (map (λ w. w.ended.items) ws) permits closed)
    (hands : List (List (SenderEnded Noted))) (replied : List (ReplyClosed Noted)) (heard : AreChannelsClosedWith shared.delivery.channels.items hands (map (λ w. w.receiver) ws) replied) where
  -- what producer p left, that it came to its end, and that what it said is what was taken
  left_by : (p : ℕ) → p < length plans + length guests
      → (w : Worked B) × (slice_get ws p ≡ Some w) × IsProduceOf shared plans guests p w × (w.fate ≡ fates.Whole) × (map said w.ended.items ≡ map (of p) (map history closed))
  left_by p under =
      let w = some_at ws p (omega (arith, under, count)) in
      let here = at_position (IsProduceOf shared plans guests) 0 p ws w.0 all w.1 in
      let e : 0 + p ≡ p = omega arith in
      let work : IsProduceOf shared plans guests p w.0 = subst (λ i. IsProduceOf shared plans guests i w.0) e here in
      let within = in_at (λ (v : Worked B). v.ended.items) ws are.0 p w.0 are.1 w.1 in (
        w.0,
        w.1,
        work,
        whole_of w.0.fate (all_at (λ (v : Worked B). fault_of_fate v.fate ≡ None) ws p w.0 fine w.1),
        said_is_taken shared.intake.lanes.items p w.0.ended.items (map history closed) work.ended (are_heard are.2 w.0.ended.items within),
      )

  answers_are : map reply_history replied ≡ map (λ (v : Worked B). received v.receiver) ws
  answers_are = lanes.histories_taken heard.2 ∙ twice ws

  pub account_of : (p : ℕ) → p < length plans
      → HasAccount shared plans (map (λ (w : Worked B). map (λ b. b.items) w.replies.items) ws) (map (λ (w : Worked B). w.log.notes) ws) (map reply_history replied) (map history closed) p
  account_of p under =
      let l = left_by p (omega (arith, under)) in
      let plan = some_at plans p under in
      let a = sym (mapped_at (λ (v : Vec (Vec ℕ Global) Global). map (λ b. b.items) v.items) plans p plan.0 [] plan.1) in
      among ws p l.0 l.1 (map reply_history replied) answers_are
      (λ replies notes answers. Account (premises_of shared.intake) p (slice_index_or (map (λ (w : Vec (Vec ℕ Global) Global). map (λ b. b.items) w.items) plans) p []) replies notes answers (map (of p) (map history closed)))
      (subst (λ x. Account (premises_of shared.intake) p x (map (λ b. b.items) l.0.replies.items) l.0.log.notes (received l.0.receiver) (map (of p) (map history closed))) a
      (subst (λ x. Account (premises_of shared.intake) p (map (λ b. b.items) plan.0.items) (map (λ b. b.items) l.0.replies.items) l.0.log.notes (received l.0.receiver) x) l.4
      (l.2.worker plan.0 plan.1 l.3)))

  pub session_account_of : (k : ℕ) (guest : Guest) → slice_get guests k ≡ Some guest → k < length guests
      → HasSessionAccount shared guest (map (λ (w : Worked B). map (λ b. b.items) w.replies.items) ws) (map (λ (w : Worked B). w.log.notes) ws) (map reply_history replied) (map history closed) (length plans + k)
  session_account_of k guest at under =
      let p = length plans + k in
      let l = left_by p (omega (arith, under)) in
      among ws p l.0 l.1 (map reply_history replied) answers_are
      (λ replies notes answers. SessionAccount (premises_of shared.intake) (length shared.delivery.mailboxes.items) shared.turns p guest replies notes answers (map (of p) (map history closed)))
      (subst (λ x. SessionAccount (premises_of shared.intake) (length shared.delivery.mailboxes.items) shared.turns p guest (map (λ b. b.items) l.0.replies.items) l.0.log.notes (received l.0.receiver) x) l.4
      (l.2.session k guest refl at l.3))

  -- each producer heard as many verdicts as copies of it were taken
  pub only_of : (p : ℕ) → p < length plans + length guests → verdicts_in (slice_index_or (map reply_history replied) p []) ≡ copies_in (map (of p) (map history closed))
  only_of p under =
      let l = left_by p under in
      ap verdicts_in (ap (λ xs. slice_index_or xs p []) answers_are ∙ mapped_at (λ (v : Worked B). received v.receiver) ws p l.0 [] l.1) ∙ l.2.only l.3 ∙ ap copies_in l.4

  -- a history in which all of them are known has what each of them put and heard, and nothing else of its seat
  pub backed_by : (log : List Event) → All (IsKnownIn log) ws → Legal log → (p : ℕ) → p < length plans + length guests
      → IsBacked p log (slice_index_or (map reply_history replied) p []) (map (of p) (map history closed))
  backed_by log known legal p under =
      let l = left_by p under in
      let b = l.2.backed l.3 in
      let k = all_at (IsKnownIn log) ws p l.0 known l.1 in
      let own = subst (λ (n : ℕ). sent_by n log ≡ sent_by n l.0.dispatch.history) b.0 k.own in
      let here = backed_later p l.0.dispatch.history log (received l.0.receiver) (map said l.0.ended.items) k.known legal own b.1 in
      among ws p l.0 l.1 (map reply_history replied) answers_are (λ replies notes answers. IsBacked p log answers (map (of p) (map history closed)))
      (subst (λ x. IsBacked p log (received l.0.receiver) x) l.4 here)
