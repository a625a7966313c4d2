use Rattle.std.proofs.Common.{◌≡◌, ◌-◌, ◌≤◌, take, length, []}
use Rattle.lmtp_machine.specs.Conversation.{Conversation}
use Rattle.lmtp_machine.specs.declared.connection.What.{What}
use Rattle.lmtp_machine.specs.inner.Calls.{Taken}
use Rattle.lmtp_machine.specs.LmtpMachine.{StandsFor}
use Rattle.house_peers.specs.ConnectionStands.{IsAwaited}
use Rattle.house_peers.proofs.connection.take_all.Given as goal

abbrev pub invariant-loop-fed : goal.invariant-loop-fed
invariant-loop-fed l = record {
  within : l.used ≤ length l.piece;
  quiet : l.machine.pending ≡ [];
  setting : l.machine.setting ≡ l.fn.machine.setting;
  host : l.machine.host ≡ l.fn.machine.host;
  taken : (c : Conversation) → StandsFor l.fn.machine c → IsAwaited [] c.standing.phase
      → (what : What) × Taken (StandsFor l.machine) l.fn.machine.setting l.fn.machine.host l.directory c (take l.used l.piece) l.fn.out.items l.out.items what l.machine.pending;
}

abbrev pub decreases-loop-fed : goal.decreases-loop-fed
decreases-loop-fed l = length l.piece - l.used
