-- A life that was led with what lies at one's own position.
use Rattle.std.proofs.Common.{◌≡◌, ◌<◌, ◌∙◌, ℕ, true, false, map, sym, ap, subst, List, Some, length, slice_get, slice_index_or}
use Rattle.std.proofs.lemmas.Option.{slice_get-get_or}
use Rattle.delivery_token.specs.declared.log.Noted.{Noted}
use Rattle.shard_queue.specs.Reply.{ReplyChannel, IsReceiver, received}
use Rattle.lane_work.specs.Backing.{IsBackedBy}
use Rattle.lane_work.specs.Permits.{AreEnded}
use Rattle.house_shared.specs.declared.shared.HouseShared.{HouseShared}
use Rattle.serving_workers.specs.Leaving.{Told, HasServedClients, HasServedMail, IsServed}
use Rattle.serving_workers.specs.declared.accepting.Served.{Served}
use Rattle.shard_queue.specs.Permits.{said}
use Rattle.lane_work.specs.Speaking.{premises_of}
use Rattle.house_shared.proofs.Finding.{found_at}

pub here_at : {A : Type 0} (xs : List A) (i n : ℕ) (d : A) → i ≡ n → n < length xs → slice_get xs n ≡ Some (slice_index_or xs i d)
here_at xs i n d same under = slice_get-get_or xs n d under ∙ ap (λ k. Some (slice_index_or xs k d)) (sym same)

pub served_by : {B L : Type 0} (told : L → Told) (shared : HouseShared B) (i n number : ℕ) (c : ReplyChannel Noted) (s r : Served B L) → i ≡ n → number ≡ n → r ≡ s
    → AreEnded shared.intake.lanes.items number s.ended.items → IsReceiver (slice_index_or shared.delivery.channels.items i c) s.receiver
    → (s.mail ≡ true → s.torn ≡ false → (line : L) × (s.line ≡ Some line) × HasServedMail (premises_of shared.intake) number (told line) (received s.receiver) (map said s.ended.items))
    → (s.mail ≡ false → s.torn ≡ false → HasServedClients (premises_of shared.intake) number (received s.receiver) (map said s.ended.items))
    → IsBackedBy n s.dispatch (received s.receiver) (map said s.ended.items) → IsServed told shared n r
served_by {L = L} told shared i n number c s r same of is ended hears mail clients backed = subst (IsServed told shared n) (sym is) (record {
  ended = subst (λ (p : ℕ). AreEnded shared.intake.lanes.items p s.ended.items) of ended;
  receiver = λ channel at. subst (λ (x : ReplyChannel Noted). IsReceiver x s.receiver) (found_at shared.delivery.channels.items i n c channel same at) hears;
  mail = λ a b. subst (λ (p : ℕ). (line : L) × (s.line ≡ Some line) × HasServedMail (premises_of shared.intake) p (told line) (received s.receiver) (map said s.ended.items)) of (mail a b);
  clients = λ a b. subst (λ (p : ℕ). HasServedClients (premises_of shared.intake) p (received s.receiver) (map said s.ended.items)) of (clients a b);
  backed = backed;
})
