use Rattle.std.proofs.Common.{max, ap, arith, ◌∙◌, ◌≡◌, []}
use Rattle.std.proofs.lemmas.List.{length-map}
use Rattle.delivery_token.specs.WorkerLog.{WorkerLog}
use Rattle.world.specs.declared.hand.Hand.TheVariants.{Empty}
use Rattle.delivery_core.specs.New.{first_key, new_lane}
use Rattle.delivery_core.specs.declared.group.Seat.{Seat}
use Rattle.delivery_core.specs.declared.group.Shard.{Shard}
use Rattle.delivery_core.proofs.Groups.{read_each}
use Rattle.delivery_core.proofs.News.{new_stands}
use Rattle.delivery_core.proofs.steps.DeliveryCore.new.Goals as goal

pub returns-clause-stands : goal.returns-clause-stands
returns-clause-stands c k f =
    let s = c.args.settings in
    let shards = c.in_ok-new_shards.ensures in
    let seats = c.in_ok-new_seats.ensures in
    let of_shard = c.in_ok-new_shards.field-0.items in
    let of_seat = c.in_ok-new_seats.field-0.items in
    new_stands k _ s.seats s.shards s.mailboxes s.depth (max s.limits.ring s.limits.ring_max) s.sessions f.seats f.shards f.mailboxes f.depth
    (length-map of_shard (λ (x : Shard). x.lane) ∙ shards.count) (read_each (λ (x : Shard). x.lane) (λ j l. l ≡ new_lane s.depth s.seats) of_shard (λ j d l. ap (λ (x : Shard). x.lane) (shards.each j d l)))
    (length-map of_shard (λ (x : Shard). x.hand) ∙ shards.count) (read_each (λ (x : Shard). x.hand) (λ j h. h ≡ Empty) of_shard (λ j d l. ap (λ (x : Shard). x.hand) (shards.each j d l)))
    (length-map of_seat (λ (x : Seat). x.replies) ∙ seats.count) (read_each (λ (x : Seat). x.replies) (λ j l. l ≡ new_lane 128 s.shards) of_seat (λ j d l. (seats.each j d l).replies))
    (length-map of_seat (λ (x : Seat). x.heard) ∙ seats.count) (read_each (λ (x : Seat). x.heard) (λ j (b : WorkerLog). b.notes ≡ []) of_seat (λ j d l. (seats.each j d l).heard))
    c.in_ok-new_boxes.ensures.count (rw (f.uidvalidity, f.first_uid, f.messages, f.ring) c.in_ok-new_boxes.ensures.each)
    (length-map of_seat (λ (x : Seat). x.next) ∙ seats.count) (read_each (λ (x : Seat). x.next) (λ p y. y ≡ first_key p) of_seat (λ j d l. (seats.each j d l).next))
    f.sessions c.in_ok-no_clients.ensures f.ring_max (omega (arith, f.ring))

pub returns-clause-next : goal.returns-clause-next
returns-clause-next c p d within =
    let seats = c.in_ok-new_seats.ensures in
    let of_seat = c.in_ok-new_seats.field-0.items in
    read_each (λ (x : Seat). x.next) (λ p y. y ≡ first_key p) of_seat (λ j e l. (seats.each j e l).next) p d (omega (arith, within, seats.count, length-map of_seat (λ (x : Seat). x.next)))
