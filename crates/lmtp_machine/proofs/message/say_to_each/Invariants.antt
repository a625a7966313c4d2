use Rattle.std.proofs.Common.{◌≡◌, ◌+◌, ◌-◌, ◌*◌, ◌≤◌, ◌++◌, vec_len, vec_capacity}
use Rattle.std.specs.Prelude.{replicate}
use Rattle.lmtp_machine.specs.Dialogue.{wire}
use Rattle.lmtp_machine.proofs.message.say_to_each.Given as goal

abbrev pub invariant-loop-told : goal.invariant-loop-told
invariant-loop-told l = record {
  room : vec_len l.out + (l.recipients - l.told) * 40 ≤ vec_capacity l.out;
  said : l.out.items ≡ l.initial.out.items ++ wire l.host (replicate l.told l.reply);
}
