use Rattle.std.proofs.Common.{◌≡◌, ◌≤◌, vec_len, vec_capacity}
use Rattle.serving.specs.Announcing.{AreUserPorts}
use Rattle.serving.proofs.sockets.listen_each.Given as goal

abbrev pub invariant-loop-number : goal.invariant-loop-number
invariant-loop-number g l =
    (vec_len l.listening ≡ l.number) × (vec_len l.ports ≡ l.number) × (l.count ≤ vec_capacity l.listening) × (l.count ≤ vec_capacity l.ports) × AreUserPorts l.first l.number l.ports.items
