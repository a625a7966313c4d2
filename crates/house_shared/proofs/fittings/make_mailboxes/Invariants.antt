use Rattle.std.proofs.Common.{◌≡◌, ◌≤◌, vec_len, vec_capacity}
use Rattle.house_shared.proofs.fittings.make_mailboxes.Given as goal

abbrev pub invariant-loop-number : goal.invariant-loop-number
invariant-loop-number g l = (vec_len l.mailboxes ≡ l.number) × (l.count ≤ vec_capacity l.mailboxes) × (l.parts ≡ l.number)
