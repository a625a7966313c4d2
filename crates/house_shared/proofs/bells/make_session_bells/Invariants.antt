use Rattle.std.proofs.Common.{◌≡◌, ◌≤◌, vec_len, vec_capacity}
use Rattle.house_shared.proofs.bells.make_session_bells.Given as goal

abbrev pub invariant-loop-mailbox : goal.invariant-loop-mailbox
invariant-loop-mailbox l = (vec_len l.bells ≡ l.mailbox) × (l.mailboxes ≤ vec_capacity l.bells)
