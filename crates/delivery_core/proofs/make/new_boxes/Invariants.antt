use Rattle.std.proofs.Common.{max, ◌≡◌, length}
use Rattle.delivery_core.specs.Stands.{EachAt}
use Rattle.delivery_core.specs.New.{IsNewBox}
use Rattle.delivery_core.proofs.make.new_boxes.Given as goal

abbrev pub invariant-loop-number : goal.invariant-loop-number
invariant-loop-number l = record { count : length l.boxes.items ≡ l.number; each : EachAt (λ j x. IsNewBox j l.uidvalidity l.first_uid l.limits.messages l.limits.ring (max l.limits.ring l.limits.ring_max) x) l.boxes.items }
