use Rattle.std.proofs.Common.{◌≡◌, length}
use Rattle.delivery_core.specs.Stands.{EachAt}
use Rattle.delivery_core.specs.New.{IsNewSeat}
use Rattle.delivery_core.proofs.make.new_seats.Given as goal

abbrev pub invariant-loop-seat : goal.invariant-loop-seat
invariant-loop-seat l = record { count : length l.seats.items ≡ l.seat; each : EachAt (λ j x. IsNewSeat j l.shards x) l.seats.items }
