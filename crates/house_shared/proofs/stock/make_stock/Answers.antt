use Rattle.std.proofs.Common.{◌≡◌, ◌∙◌, ℕ, zero, suc, List, [], ◌∷◌, All, ap, refl, map, replicate, length, arith}
use Rattle.std.proofs.lemmas.List.{length-map}
use Rattle.std.proofs.lemmas.List.Elements.{All-nil, All-cons}
use Rattle.lane_work.proofs.RowLaws.{consumers_length, rows_length}
use Rattle.shard_queue.specs.Permits.{capacity_of, is_of, view}
use Rattle.shard_queue.specs.Reply.{room_of}
use Rattle.house_shared.proofs.stock.make_stock.Goals as goal

pub abandon_lanes-requires : goal.abandon_lanes-requires
abandon_lanes-requires g c =
    let lanes = c.in-Ok-make_lanes.lanes in
    let made = c.in-Ok-make_lanes.ensures in
    let rows = rows_length view is_of lanes.lanes.items 0 (map (λ v. v.items) lanes.permits.items) made.permits in
    let mapped = length-map lanes.permits.items (λ v. v.items) in
    let permits = consumers_length view is_of lanes.lanes.items lanes.consumers.items made.consumers.0 in
    (omega (arith, rows, mapped, lanes.permits.ok.0, lanes.lanes.ok.0), omega (arith, permits, lanes.consumers.ok.0, lanes.lanes.ok.0))

-- so many, each with this room
all_roomy : {A : Type 0} (room : A → ℕ) (xs : List A) (n depth : ℕ) → map room xs ≡ replicate n depth → (length xs ≡ n) × All (λ x. room x ≡ depth) xs
all_roomy room [] zero depth e = (refl, All-nil (λ x. room x ≡ depth))
all_roomy room [] (suc n) depth e = absurd (let x : [] ≡ depth ∷ replicate n depth = e in cc)
all_roomy room (x ∷ xs) zero depth e = absurd (let y : room x ∷ map room xs ≡ [] = e in cc)
all_roomy room (x ∷ xs) (suc n) depth e =
    let both : room x ∷ map room xs ≡ depth ∷ replicate n depth = e in
    let here : room x ≡ depth = cc in
    let others : map room xs ≡ replicate n depth = cc in
    let rest = all_roomy room xs n depth others in
    (ap suc rest.0, All-cons (λ x. room x ≡ depth) x xs here rest.1)

pub returns-in-Ok-make_lanes-2-clause-stock : goal.returns-in-Ok-make_lanes-2-clause-stock
returns-in-Ok-make_lanes-2-clause-stock g c =
    let lanes = c.in-Ok-make_lanes.lanes in
    let made = c.in-Ok-make_lanes.ensures in
    let channels = c.in-Ok-make_lanes-2.channels in
    let opened = c.in-Ok-make_lanes-2.ensures in
    let roomy = all_roomy capacity_of lanes.lanes.items c.args.shards c.args.depth (made.rooms ∙ c.deref.ensures.value ∙ c.in_ok-lane_rooms.ensures.rooms) in
    let shards = roomy.0 in
    let mapped = length-map channels.lanes.items room_of in
    let rooms = ap length (opened.rooms ∙ c.deref-2.ensures.value) in
    let producers = c.in_ok-reply_rooms.ensures.count in
    record {
      of_producers = c.in_ok-rooms.ensures.producers;
      of_consumers = c.in_ok-rooms.ensures.consumers;
      lists = c.in-Ok.ensures;
      lanes = (omega (arith, shards, lanes.lanes.ok.0), λ k d under. (roomy.1 k d under, made.producers k d under));
      of_lanes = record { permits = made.permits; consumers = made.consumers.0; fresh = made.consumers.1 };
      channels = (omega (arith, mapped, rooms, producers, channels.lanes.ok.0, c.in_ok-reply_rooms.reply_rooms.ok.0), opened.producers);
      of_channels = record { permits = opened.permits; consumers = opened.consumers.0; fresh = opened.consumers.1 };
    }
