-- A house that was closed with nothing amiss.
use Rattle.std.proofs.Common.{◌≡◌, ◌∙◌, List, [], ◌∷◌, Option, Some, None, IfSome, true, false, length, map, ap, refl, sym, subst, Vec, vec_len}
use Rattle.std.specs.Global.{Global}
use Rattle.std.specs.List.{list_any}
use Rattle.delivery_token.specs.declared.Job.{Job}
use Rattle.delivery_token.specs.declared.log.Noted.{Noted}
use Rattle.shard_queue.specs.Reply.{ReplyChannel, received, reply_history}
use Rattle.shard_queue.specs.declared.lane.Entry.{Entry}
use Rattle.shard_queue.specs.Permits.{ShardQueue, Ended}
use Rattle.lane_work.specs.declared.consumer.Consumed.{Consumed}
use Rattle.lane_work.specs.declared.worker.Worked.{Worked}
use Rattle.lane_work.specs.ChannelPermits.{AreReceivers}
use Rattle.shared_consumers.specs.declared.consumer_set.Dismissed.{Dismissed}
use Rattle.house_shared.specs.declared.shared.HouseShared.{HouseShared}
use Rattle.lane_work.proofs.CloseLaws.{histories_taken}
use Rattle.reckoning.specs.Closing.{AreChannelsClosedWith, AreClosedWith}
use Rattle.house_history.specs.declared.event.Event.{Event}
use Rattle.house_history.specs.Legal.{Legal}
use Rattle.locked_mailbox.specs.Locking.{LockedMailbox}
use Rattle.house_shared.specs.Crew.{AllAt}
use Rattle.reckoning.specs.Histories.{AreBacked}
use Rattle.reckoning.specs.Shelves.{IsRecorded}
use Rattle.serving_workers.specs.Closing.{GoOn, WasClosed}
use Rattle.serving_workers.specs.Finished.{Finished, told_of}
use Rattle.serving_workers.specs.Leaving.{Told}
use Rattle.serving_workers.specs.declared.accepting.Served.{Served}

got_twice : {B : Type 0} (ws : List (Worked B)) → map received (map (λ (w : Worked B). w.receiver) ws) ≡ map (λ (w : Worked B). received w.receiver) ws
got_twice [] = refl
got_twice (w ∷ ws) = ap (λ (l : List (List (Entry Noted))). received w.receiver ∷ l) (got_twice ws)

told_each : {B L : Type 0} (told : L → Told) (served : List (Served B L)) → map (told_of told) (map (λ s. s.line) served) ≡ map (λ s. told_of told s.line) served
told_each told [] = refl
told_each told (s ∷ served) = ap (λ (l : List (Option Told)). told_of told s.line ∷ l) (told_each told served)

-- what follows of each that there may be
pub both_of : {A : Type 0} {P Q R : A → Type 0} (o : Option A) → IfSome o P → IfSome o Q → IfSome o R → (S : A → Type 0) → ((x : A) → P x → Q x → R x → S x) → IfSome o S
both_of None p q r S all = tt
both_of (Some x) p q r S all = all x p q r

pub whole_of : {B L : Type 0} (told : L → Told) (shared : HouseShared B) (served : List (Served B L)) (d : Dismissed B) (ws : List (Worked B)) (lanes : Vec (ShardQueue Job) Global)
    (channels : Vec (ReplyChannel Noted) Global) (lines : List (Option L)) (unlocked mailboxes : Vec LockedMailbox Global) (finished : Finished)
    → d.in_order ≡ true → list_any (λ s. s.torn) served ≡ false → list_any (λ c. c.torn) d.consumed.items ≡ false
    → lanes ≡ shared.intake.lanes → channels ≡ shared.delivery.channels → map (λ w. w.ended.items) ws ≡ map (λ s. s.ended.items) served
    → GoOn (map (λ s. received s.receiver) served) (map (λ w. received w.receiver) ws)
    → AreClosedWith lanes.items (map (λ w. w.ended.items) ws) (map (λ c. c.permit) d.consumed.items) finished.lanes.items
    → AreChannelsClosedWith channels.items (map (λ c. c.senders.items) d.consumed.items) (map (λ w. w.receiver) ws) finished.channels.items
    → AreReceivers shared.delivery.channels.items (map (λ w. w.receiver) ws) → (front : List Event) → Legal front
    → AreBacked front 0 (map (λ w. w.ended.items) ws) (map (λ w. received w.receiver) ws)
    → AllAt (IsRecorded front) 0 unlocked.items → mailboxes.items ≡ unlocked.items → vec_len mailboxes ≡ length shared.delivery.mailboxes.items → lines ≡ map (λ s. s.line) served
    → (finished.mailboxes ≡ mailboxes) × (finished.front ≡ front) × (finished.lines ≡ map (told_of told) lines) → WasClosed told shared served d finished
whole_of told shared served d ws lanes channels lines unlocked mailboxes finished order producers shared_consumers of_lanes of_channels ended grew closed shut own front legal backed recorded same count lined rest =
    let permits = map (λ (c : Consumed _). c.permit) d.consumed.items in
    let senders = map (λ (c : Consumed _). c.senders.items) d.consumed.items in
    let receivers = map (λ (w : Worked _). w.receiver) ws in
    let at = sym rest.1 in
    record {
      in_order = order;
      producers = producers;
      shared_consumers = shared_consumers;
      lanes = subst (λ hs. AreClosedWith shared.intake.lanes.items hs permits finished.lanes.items) ended
          (subst (λ (v : Vec (ShardQueue Job) Global). AreClosedWith v.items (map (λ (w : Worked _). w.ended.items) ws) permits finished.lanes.items) of_lanes closed);
      channels = (receivers, own, subst (λ (v : Vec (ReplyChannel Noted) Global). AreChannelsClosedWith v.items senders receivers finished.channels.items) of_channels shut);
      heard = subst (GoOn (map (λ (s : Served _ _). received s.receiver) served)) (sym (histories_taken shut.2 ∙ got_twice ws)) grew;
      legal = subst Legal at legal;
      backed = subst (λ (history : List Event). AreBacked history 0 (map (λ (s : Served _ _). s.ended.items) served) (map reply_history finished.channels.items)) at
          (subst (λ (hs : List (List (Ended Job))). AreBacked front 0 hs (map reply_history finished.channels.items)) ended
          (subst (AreBacked front 0 (map (λ (w : Worked _). w.ended.items) ws)) (sym (histories_taken shut.2 ∙ got_twice ws)) backed));
      mailboxes = subst (λ (history : List Event). AllAt (IsRecorded history) 0 finished.mailboxes.items) at
          (subst (λ (v : Vec LockedMailbox Global). AllAt (IsRecorded front) 0 v.items) (sym rest.0) (subst (AllAt (IsRecorded front) 0) (sym same) recorded));
      each_mailbox = ap (λ (v : Vec LockedMailbox Global). vec_len v) rest.0 ∙ count;
      lines = rest.2 ∙ (ap (map (told_of told)) lined ∙ told_each told served);
    }
