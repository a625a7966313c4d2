use Rattle.std.proofs.Common.{◌≡◌, drop, Some}
use Rattle.running_house.specs.Walk.{are_met}
use Rattle.running_house.proofs.there.are_met.Given as goal

abbrev pub invariant-loop-message : goal.invariant-loop-message
invariant-loop-message l = are_met l.mailbox (Some (l.pairs, l.jobs)) (drop l.message-index l.texts) ≡ are_met l.mailbox (Some (l.accepted, l.copies)) l.texts
