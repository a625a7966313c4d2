use Rattle.std.proofs.Common.{◌≡◌, ◌∙◌, sym, refl, ap, subst, arith, set, ◌<◌, ◌%◌, ◌++◌, ◌∷◌, [], ℕ, List, length, map}
use Rattle.std.proofs.lemmas.List.{length-map, map-set}
use Rattle.std.specs.Prelude.{sum_by}
use Rattle.delivery_token.specs.Keys.{past}
use Rattle.delivery_token.specs.declared.Verdict.TheVariants.{Refused}
use Rattle.delivery_token.specs.declared.log.Noted.{Noted}
use Rattle.delivery_core.specs.DeliveryCore.{DeliveryCore}
use Rattle.delivery_core.specs.Stands.{StandsFor}
use Rattle.delivery_core.specs.declared.group.Seat.{Seat}
use Rattle.delivery_core.specs.declared.group.Shard.{Shard}
use Rattle.delivery_core.specs.inner.DeliveryCore.{in_groups}
use Rattle.delivery_core.specs.Load.{hand_load, lane_load, reply_load}
use Rattle.delivery_core.proofs.Groups.{kept_at, read_at}
use Rattle.delivery_core.proofs.Loads.{refused_same, sum_changes}
use Rattle.delivery_core.proofs.Notes.{hears_none, hears_more, put_load}
use Rattle.delivery_core.proofs.Puts.{put_follows, refused_follows, shut_tells}
use Rattle.delivery_core.proofs.steps.DeliveryCore.put.Goals as goal

pub returns-clause-follows : goal.returns-clause-follows
returns-clause-follows c k w S =
    let i = c.self.inside in
    let seat = c.index_mut-own.result.now in
    let later : Seat = record { replies = seat.replies; heard = c.note.new.self; next = past c.args.key } in
    let shard = c.index_mut.result.now in
    let full : Shard = record { lane = c.put_in.new.lane; hand = shard.hand } in
    let lanes = length-map i.shards.items (λ (s : Shard). s.lane) in
    let shards : 0 < length (map (λ (s : Shard). s.lane) i.shards.items) = rw (← c.self.view_is) at c.requires.shards in
    let sh : c.from.result % c.len.result ≡ c.args.mailbox % length (map (λ (s : Shard). s.lane) i.shards.items) = ap (λ (m : ℕ). m % c.len.result) c.from.ensures ∙ ap (λ (n : ℕ). c.args.mailbox % n) (omega (arith, c.len.ensures, lanes)) in
    let ins : c.args.mailbox % length (map (λ (s : Shard). s.lane) i.shards.items) < length (map (λ (s : Shard). s.lane) i.shards.items) = omega arith in
    rw (← c.self.view_is) (refused_follows k w _ _ (c.args.mailbox % length (map (λ (s : Shard). s.lane) i.shards.items)) (record { key = c.args.key; mailbox = c.args.mailbox; text = c.args.text.now; flags = c.args.flags }) c.in-Some.why shard.lane c.put_in.new.lane
    seat.heard c.note.new.self
    (subst (λ (h : DeliveryCore). StandsFor k h w) (sym c.self.view_is) S) ins (rw sh at (read_at (λ (s : Shard). s.lane) i.shards.items (c.from.result % c.len.result) shard c.index_mut.ensures.value))
    (rw (← c.self.view_is) at c.requires.seat) (rw (← c.self.view_is) at c.requires.next) (rw (← c.self.view_is) at c.requires.mailbox) refl
    (rw c.from-seat.ensures at (read_at (λ (s : Seat). s.heard) i.seats.items c.from-seat.result seat c.index_mut-own.ensures.value))
    (c.note.ensures.notes ∙ ap (λ (ns : List Noted). let r : Noted = record { key = c.args.key; mailbox = c.args.mailbox; verdict = Refused c.in-Some.why } in ns ++ r ∷ []) c.reserve.ensures.notes)
    (rw c.in-Some.is at c.put_in.ensures)
    (map-set (λ (s : Shard). s.lane) i.shards.items (c.from.result % c.len.result) full ∙ ap (λ (n : ℕ). set (map (λ (s : Shard). s.lane) i.shards.items) n c.put_in.new.lane) sh)
    (map-set (λ (s : Seat). s.heard) i.seats.items c.from-seat.result later ∙ ap (λ (n : ℕ). set (map (λ (s : Seat). s.heard) i.seats.items) n c.note.new.self) c.from-seat.ensures)
    (map-set (λ (s : Seat). s.next) i.seats.items c.from-seat.result later ∙ ap (λ (n : ℕ). set (map (λ (s : Seat). s.next) i.seats.items) n (past c.args.key)) c.from-seat.ensures)
    (kept_at (λ (s : Shard). s.hand) i.shards.items (c.from.result % c.len.result) shard full c.index_mut.ensures.value refl)
    (kept_at (λ (s : Seat). s.replies) i.seats.items c.from-seat.result seat later c.index_mut-own.ensures.value refl) refl refl)

pub returns-in_default-clause-follows : goal.returns-in_default-clause-follows
returns-in_default-clause-follows c k w S =
    let i = c.self.inside in
    let seat = c.index_mut-own.result.now in
    let later : Seat = record { replies = seat.replies; heard = c.reserve.new.self; next = past c.args.key } in
    let shard = c.index_mut.result.now in
    let full : Shard = record { lane = c.put_in.new.lane; hand = shard.hand } in
    let lanes = length-map i.shards.items (λ (s : Shard). s.lane) in
    let shards : 0 < length (map (λ (s : Shard). s.lane) i.shards.items) = rw (← c.self.view_is) at c.requires.shards in
    let sh : c.from.result % c.len.result ≡ c.args.mailbox % length (map (λ (s : Shard). s.lane) i.shards.items) = ap (λ (m : ℕ). m % c.len.result) c.from.ensures ∙ ap (λ (n : ℕ). c.args.mailbox % n) (omega (arith, c.len.ensures, lanes)) in
    let ins : c.args.mailbox % length (map (λ (s : Shard). s.lane) i.shards.items) < length (map (λ (s : Shard). s.lane) i.shards.items) = omega arith in
    rw (← c.self.view_is) (put_follows k w _ _ (c.args.mailbox % length (map (λ (s : Shard). s.lane) i.shards.items)) (record { key = c.args.key; mailbox = c.args.mailbox; text = c.args.text.now; flags = c.args.flags }) shard.lane c.put_in.new.lane
    seat.heard c.reserve.new.self
    (subst (λ (h : DeliveryCore). StandsFor k h w) (sym c.self.view_is) S) ins (rw sh at (read_at (λ (s : Shard). s.lane) i.shards.items (c.from.result % c.len.result) shard c.index_mut.ensures.value))
    (rw (← c.self.view_is) at c.requires.seat) (rw (← c.self.view_is) at c.requires.next) (rw (← c.self.view_is) at c.requires.mailbox) refl
    (rw c.from-seat.ensures at (read_at (λ (s : Seat). s.heard) i.seats.items c.from-seat.result seat c.index_mut-own.ensures.value)) c.reserve.ensures.notes
    (rw c.in_default.is at c.put_in.ensures)
    (map-set (λ (s : Shard). s.lane) i.shards.items (c.from.result % c.len.result) full ∙ ap (λ (n : ℕ). set (map (λ (s : Shard). s.lane) i.shards.items) n c.put_in.new.lane) sh)
    (map-set (λ (s : Seat). s.heard) i.seats.items c.from-seat.result later ∙ ap (λ (n : ℕ). set (map (λ (s : Seat). s.heard) i.seats.items) n c.reserve.new.self) c.from-seat.ensures)
    (map-set (λ (s : Seat). s.next) i.seats.items c.from-seat.result later ∙ ap (λ (n : ℕ). set (map (λ (s : Seat). s.next) i.seats.items) n (past c.args.key)) c.from-seat.ensures)
    (kept_at (λ (s : Shard). s.hand) i.shards.items (c.from.result % c.len.result) shard full c.index_mut.ensures.value refl)
    (kept_at (λ (s : Seat). s.replies) i.seats.items c.from-seat.result seat later c.index_mut-own.ensures.value refl) refl refl)

pub returns-in_default-clause-next : goal.returns-in_default-clause-next
returns-in_default-clause-next c =
    let own = c.index_mut-own.result.now in
    let later : Seat = record { replies = own.replies; heard = c.reserve.new.self; next = past c.args.key } in
    let seats = c.self.inside.seats.items in
    rw (← c.self.view_is) (map-set (λ (s : Seat). s.next) seats c.from-seat.result later ∙ ap (λ (n : ℕ). set (map (λ (s : Seat). s.next) seats) n (past c.args.key)) c.from-seat.ensures)

pub returns-clause-next : goal.returns-clause-next
returns-clause-next c =
    let own = c.index_mut-own.result.now in
    let later : Seat = record { replies = own.replies; heard = c.note.new.self; next = past c.args.key } in
    let seats = c.self.inside.seats.items in
    rw (← c.self.view_is) (map-set (λ (s : Seat). s.next) seats c.from-seat.result later ∙ ap (λ (n : ℕ). set (map (λ (s : Seat). s.next) seats) n (past c.args.key)) c.from-seat.ensures)

pub returns-in_default-clause-heard : goal.returns-in_default-clause-heard
returns-in_default-clause-heard c =
    let seats = c.self.inside.seats.items in
    let own = c.index_mut-own.result.now in
    let later : Seat = record { replies = own.replies; heard = c.reserve.new.self; next = past c.args.key } in
    let seat : c.args.key.seat < length (map (λ (s : Seat). s.replies) seats) = rw (← c.self.view_is) at c.requires.seat in
    rw (← c.self.view_is) (hears_none _ _ c.args.key.seat own.heard c.reserve.new.self
    (omega (arith, seat, length-map seats (λ (s : Seat). s.replies), length-map seats (λ (s : Seat). s.heard)))
    (rw c.from-seat.ensures at (read_at (λ (s : Seat). s.heard) seats c.from-seat.result own c.index_mut-own.ensures.value)) c.reserve.ensures.notes
    (map-set (λ (s : Seat). s.heard) seats c.from-seat.result later ∙ ap (λ (n : ℕ). set (map (λ (s : Seat). s.heard) seats) n c.reserve.new.self) c.from-seat.ensures))

pub returns-in_default-clause-load : goal.returns-in_default-clause-load
returns-in_default-clause-load c =
    let i = c.self.inside in
    let own = c.index_mut-own.result.now in
    let later : Seat = record { replies = own.replies; heard = c.reserve.new.self; next = past c.args.key } in
    let shard = c.index_mut.result.now in
    let full : Shard = record { lane = c.put_in.new.lane; hand = shard.hand } in
    let shards : 0 < length (map (λ (s : Shard). s.lane) i.shards.items) = rw (← c.self.view_is) at c.requires.shards in
    let within : c.from.result % c.len.result < length i.shards.items = omega (arith, shards, c.len.ensures, length-map i.shards.items (λ (s : Shard). s.lane)) in
    let seat : c.args.key.seat < length (map (λ (s : Seat). s.replies) i.seats.items) = rw (← c.self.view_is) at c.requires.seat in
    let more = put_load (map (λ (s : Shard). s.lane) i.shards.items) (c.from.result % c.len.result) c.args.key.seat (record { key = c.args.key; mailbox = c.args.mailbox; text = c.args.text.now; flags = c.args.flags }) shard.lane c.put_in.new.lane
    (omega (arith, within, length-map i.shards.items (λ (s : Shard). s.lane))) (read_at (λ (s : Shard). s.lane) i.shards.items (c.from.result % c.len.result) shard c.index_mut.ensures.value) (rw c.in_default.is at c.put_in.ensures) in
    let lanes = ap (sum_by lane_load) (map-set (λ (s : Shard). s.lane) i.shards.items (c.from.result % c.len.result) full) in
    let hands = sum_changes hand_load (λ (s : Shard). s.hand) i.shards.items (c.from.result % c.len.result) shard full within c.index_mut.ensures.value in
    let replies = sum_changes reply_load (λ (s : Seat). s.replies) i.seats.items c.from-seat.result own later (omega (arith, seat, c.from-seat.ensures, length-map i.seats.items (λ (s : Seat). s.replies))) c.index_mut-own.ensures.value in
    rw (← c.self.view_is) (omega (arith, more, lanes, hands, replies))

pub returns-clause-load : goal.returns-clause-load
returns-clause-load c =
    let i = c.self.inside in
    let own = c.index_mut-own.result.now in
    let later : Seat = record { replies = own.replies; heard = c.note.new.self; next = past c.args.key } in
    let shard = c.index_mut.result.now in
    let full : Shard = record { lane = c.put_in.new.lane; hand = shard.hand } in
    let shards : 0 < length (map (λ (s : Shard). s.lane) i.shards.items) = rw (← c.self.view_is) at c.requires.shards in
    let within : c.from.result % c.len.result < length i.shards.items = omega (arith, shards, c.len.ensures, length-map i.shards.items (λ (s : Shard). s.lane)) in
    let seat : c.args.key.seat < length (map (λ (s : Seat). s.replies) i.seats.items) = rw (← c.self.view_is) at c.requires.seat in
    let same = ap lane_load (refused_same shard.lane c.put_in.new.lane c.args.key.seat _ c.in-Some.why (rw c.in-Some.is at c.put_in.ensures)) in
    let lanes = sum_changes lane_load (λ (s : Shard). s.lane) i.shards.items (c.from.result % c.len.result) shard full within c.index_mut.ensures.value in
    let hands = sum_changes hand_load (λ (s : Shard). s.hand) i.shards.items (c.from.result % c.len.result) shard full within c.index_mut.ensures.value in
    let replies = sum_changes reply_load (λ (s : Seat). s.replies) i.seats.items c.from-seat.result own later (omega (arith, seat, c.from-seat.ensures, length-map i.seats.items (λ (s : Seat). s.replies))) c.index_mut-own.ensures.value in
    rw (← c.self.view_is) (omega (arith, same, lanes, hands, replies))

pub returns-clause-heard : goal.returns-clause-heard
returns-clause-heard c =
    let seats = c.self.inside.seats.items in
    let own = c.index_mut-own.result.now in
    let later : Seat = record { replies = own.replies; heard = c.note.new.self; next = past c.args.key } in
    let seat : c.args.key.seat < length (map (λ (s : Seat). s.replies) seats) = rw (← c.self.view_is) at c.requires.seat in
    rw (← c.self.view_is) (hears_more _ _ c.args.key.seat own.heard c.note.new.self _
    (omega (arith, seat, length-map seats (λ (s : Seat). s.replies), length-map seats (λ (s : Seat). s.heard)))
    (rw c.from-seat.ensures at (read_at (λ (s : Seat). s.heard) seats c.from-seat.result own c.index_mut-own.ensures.value))
    (c.note.ensures.notes ∙ ap (λ (ns : List Noted). let r : Noted = record { key = c.args.key; mailbox = c.args.mailbox; verdict = Refused c.in-Some.why } in ns ++ r ∷ []) c.reserve.ensures.notes)
    (map-set (λ (s : Seat). s.heard) seats c.from-seat.result later ∙ ap (λ (n : ℕ). set (map (λ (s : Seat). s.heard) seats) n c.note.new.self) c.from-seat.ensures))

pub returns-clause-shut : goal.returns-clause-shut
returns-clause-shut c =
    let i = c.self.inside in
    let h : DeliveryCore = in_groups i.shards.items i.seats.items i.boxes.items i.clients.items in
    let shard = c.index_mut.result.now in
    let lanes = length-map i.shards.items (λ (s : Shard). s.lane) in
    let shards : 0 < length (map (λ (s : Shard). s.lane) i.shards.items) = rw (← c.self.view_is) at c.requires.shards in
    let sh : c.from.result % c.len.result ≡ c.args.mailbox % length (map (λ (s : Shard). s.lane) i.shards.items) = ap (λ (m : ℕ). m % c.len.result) c.from.ensures ∙ ap (λ (n : ℕ). c.args.mailbox % n) (omega (arith, c.len.ensures, lanes)) in
    let ins : c.args.mailbox % length (map (λ (s : Shard). s.lane) i.shards.items) < length (map (λ (s : Shard). s.lane) i.shards.items) = omega arith in
    rw (← c.self.view_is) (shut_tells h c.args.key.seat (c.args.mailbox % length (map (λ (s : Shard). s.lane) i.shards.items)) (record { key = c.args.key; mailbox = c.args.mailbox; text = c.args.text.now; flags = c.args.flags }) shard.lane c.put_in.new.lane _
    ins (rw sh at (read_at (λ (s : Shard). s.lane) i.shards.items (c.from.result % c.len.result) shard c.index_mut.ensures.value)) (rw c.in-Some.is at c.put_in.ensures))

pub returns-in_default-clause-shut : goal.returns-in_default-clause-shut
returns-in_default-clause-shut c =
    let i = c.self.inside in
    let h : DeliveryCore = in_groups i.shards.items i.seats.items i.boxes.items i.clients.items in
    let shard = c.index_mut.result.now in
    let lanes = length-map i.shards.items (λ (s : Shard). s.lane) in
    let shards : 0 < length (map (λ (s : Shard). s.lane) i.shards.items) = rw (← c.self.view_is) at c.requires.shards in
    let sh : c.from.result % c.len.result ≡ c.args.mailbox % length (map (λ (s : Shard). s.lane) i.shards.items) = ap (λ (m : ℕ). m % c.len.result) c.from.ensures ∙ ap (λ (n : ℕ). c.args.mailbox % n) (omega (arith, c.len.ensures, lanes)) in
    let ins : c.args.mailbox % length (map (λ (s : Shard). s.lane) i.shards.items) < length (map (λ (s : Shard). s.lane) i.shards.items) = omega arith in
    rw (← c.self.view_is) (shut_tells h c.args.key.seat (c.args.mailbox % length (map (λ (s : Shard). s.lane) i.shards.items)) (record { key = c.args.key; mailbox = c.args.mailbox; text = c.args.text.now; flags = c.args.flags }) shard.lane c.put_in.new.lane _
    ins (rw sh at (read_at (λ (s : Shard). s.lane) i.shards.items (c.from.result % c.len.result) shard c.index_mut.ensures.value)) (rw c.in_default.is at c.put_in.ensures))
