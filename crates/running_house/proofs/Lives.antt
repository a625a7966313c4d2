-- A life that was led with what lies at one's own position.
use Rattle.std.proofs.Common.{◌≡◌, ◌≤◌, ◌<◌, ◌+◌, ◌∷◌, ◌∙◌, ℕ, zero, suc, arith, sym, ap, subst, List, [], All, Option, None, Some, IfSome, Vec, map, length, slice_get, slice_index_or}
use Rattle.std.specs.Global.{Global}
use Rattle.delivery_token.specs.declared.Job.{Job}
use Rattle.delivery_token.specs.declared.log.Noted.{Noted}
use Rattle.shard_queue.specs.declared.lane.Entry.{Entry}
use Rattle.shard_queue.specs.Reply.{ReplyChannel}
use Rattle.shard_queue.specs.Permits.{ShardQueue}
use Rattle.lane_work.specs.declared.worker.Worked.{Worked}
use Rattle.lane_work.specs.declared.consumer.Consumed.{Consumed}
use Rattle.lane_work.specs.declared.worker.Fate.TheVariants.{NotBegun, Whole}
use Rattle.lane_work.specs.Awaiting.{copies_in, verdicts_in}
use Rattle.lane_work.specs.Backing.{IsBackedBy}
use Rattle.lane_work.specs.Permits.{AreEnded}
use Rattle.lane_work.specs.Account.{Account}
use Rattle.lane_work.specs.Speaking.{premises_of}
use Rattle.lane_work.specs.Working.{IsWorked}
use Rattle.shard_queue.specs.Reply.{IsReceiver, received}
use Rattle.shard_queue.specs.Permits.{said}
use Rattle.shard_queue.specs.Reply.{ReceiverPermit}
use Rattle.house_shared.specs.declared.shared.Guest.{Guest}
use Rattle.lane_work.specs.Consuming.{IsConsumed}
use Rattle.house_shared.specs.declared.shared.HouseShared.{HouseShared}
use Rattle.house_shared.specs.Left.{IsServiceOf}
use Rattle.running_house.specs.inner.Crew.{IsAttended}
use Rattle.running_house.specs.Produced.{IsProduceOf, Plans, SessionAccount}
use Rattle.house_shared.proofs.Finding.{found_at}

-- what a worker at its position left
pub work_of : {B : Type 0} (shared : HouseShared B) (plans : Plans) (guests : List Guest) (i n number : ℕ) (c : ReplyChannel Noted) (p : Vec (Vec ℕ Global) Global) (bytes : List (Vec ℕ Global)) (w : Worked B)
    → i ≡ n → n < length plans → number ≡ n → bytes ≡ (slice_index_or plans i p).items
    → IsWorked shared.intake (slice_index_or shared.delivery.channels.items i c) number (map (λ b. b.items) bytes) w → (w.fate ≡ Whole → verdicts_in (received w.receiver) ≡ copies_in (map said w.ended.items))
    → (w.fate ≡ Whole → IsBackedBy number w.dispatch (received w.receiver) (map said w.ended.items)) → IsProduceOf shared plans guests n w
work_of shared plans guests i n number c p bytes w same under of are worked only backed =
    let own = subst (λ (x : ℕ). IsWorked shared.intake (slice_index_or shared.delivery.channels.items i c) x (map (λ b. b.items) bytes) w) of worked in
    record {
      ended = own.0;
      receiver = λ channel at. subst (λ (x : ReplyChannel Noted). IsReceiver x w.receiver) (found_at shared.delivery.channels.items i n c channel same at) own.1;
      seat = own.2;
      only = only;
      backed = λ whole. subst (λ (x : ℕ). IsBackedBy x w.dispatch (received w.receiver) (map said w.ended.items)) of (backed whole);
      worker = λ plan at whole.
          subst (λ (x : List (Vec ℕ Global)). Account (premises_of shared.intake) n (map (λ b. b.items) x) (map (λ b. b.items) w.replies.items) w.log.notes (received w.receiver) (map said w.ended.items))
          (are ∙ ap (λ (v : Vec (Vec ℕ Global) Global). v.items) (found_at plans i n p plan same at)) (own.3 whole);
      session = λ k guest behind at whole. absurd (omega (arith, under, behind));
    }

-- nothing stands beyond a list's end
beyond : {A : Type 0} (xs : List A) (n : ℕ) (x : A) → length xs ≤ n → slice_get xs n ≡ Some x → ⊥
beyond {A} [] n x least at = (let e : ◌≡◌ {A = Option A} None (Some x) = at in absurd cc)
beyond (y ∷ ys) zero x least at = absurd (omega (arith, least))
beyond (y ∷ ys) (suc n) x least at = beyond ys n x (omega (arith, least)) at

-- what a session at its position left, behind the workers
pub attended_of : {B : Type 0} (shared : HouseShared B) (plans : Plans) (guests : List Guest) (i n s seat : ℕ) (c : ReplyChannel Noted) (g : Guest) (w : Worked B)
    → i ≡ n → length plans ≤ n → s + length plans ≡ n → seat ≡ n → g ≡ slice_index_or guests s g
    → IsAttended shared (slice_index_or shared.delivery.channels.items i c) seat g w → IsProduceOf shared plans guests n w
attended_of shared plans guests i n s seat c g w same behind counts of is attended =
    let own = subst (λ (x : ℕ). IsAttended shared (slice_index_or shared.delivery.channels.items i c) x g w) of attended in
    record {
      ended = own.0;
      receiver = λ channel at. subst (λ (x : ReplyChannel Noted). IsReceiver x w.receiver) (found_at shared.delivery.channels.items i n c channel same at) own.1;
      seat = own.2;
      only = own.3;
      backed = own.5;
      worker = λ plan at whole. absurd (beyond plans n plan behind at);
      session = λ k guest here at whole.
          subst (λ (x : Guest). SessionAccount (premises_of shared.intake) (length shared.delivery.mailboxes.items) shared.turns n x (map (λ b. b.items) w.replies.items) w.log.notes (received w.receiver) (map said w.ended.items))
          (is ∙ found_at guests s k g guest (omega (arith, counts, here)) at) (own.4 whole);
    }

-- what is left of a producer that stood down
pub stood_down : {B : Type 0} (shared : HouseShared B) (plans : Plans) (guests : List Guest) (n number : ℕ) (receiver : ReceiverPermit Noted) (w r : Worked B)
    → number ≡ n → r ≡ w → AreEnded shared.intake.lanes.items number w.ended.items → w.receiver ≡ receiver → w.log.seat ≡ number → w.fate ≡ NotBegun
    → ((channel : ReplyChannel Noted) → slice_get shared.delivery.channels.items n ≡ Some channel → IsReceiver channel receiver)
    → IsProduceOf shared plans guests n r
stood_down shared plans guests n number receiver w r of is ended same seat fate hears =
    let not_whole : w.fate ≡ Whole → ⊥ = λ whole. (let e : NotBegun ≡ Whole = sym fate ∙ whole in cc) in
    subst (IsProduceOf shared plans guests n) (sym is) (record {
      ended = subst (λ (x : ℕ). AreEnded shared.intake.lanes.items x w.ended.items) of ended;
      receiver = λ channel at. subst (IsReceiver channel) (sym same) (hears channel at);
      seat = seat ∙ of;
      only = λ whole. absurd (not_whole whole);
      backed = λ whole. absurd (not_whole whole);
      worker = λ plan at whole. absurd (not_whole whole);
      session = λ k guest behind at whole. absurd (not_whole whole);
    })

pub service_of : {B : Type 0} (shared : HouseShared B) (i n shard : ℕ) (q : ShardQueue Job) (before : List (List (Entry Noted))) (c r : Consumed B)
    → i ≡ n → shard ≡ n → r ≡ c → All (λ e. e ≡ []) before → IsConsumed (slice_index_or shared.intake.lanes.items i q) shared.delivery shard before c → IsServiceOf shared n r
service_of shared i n shard q before c r same of is fresh consumed = record {
  each = λ lane at. (
    before,
    fresh,
    subst (IsConsumed lane shared.delivery n before) (sym is)
        (subst (λ (x : ShardQueue Job). IsConsumed x shared.delivery n before c) (found_at shared.intake.lanes.items i n q lane same at)
        (subst (λ (x : ℕ). IsConsumed (slice_index_or shared.intake.lanes.items i q) shared.delivery x before c) of consumed)),
  );
}
