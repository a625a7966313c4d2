use Rattle.std.proofs.Common.{◌≡◌, ◌+◌, ◌-◌, ◌*◌, ◌≤◌, ◌++◌, length, map, take, vec_len, vec_capacity}
use Rattle.lmtp_machine.specs.Dialogue.{wire, verdict_reply}
use Rattle.lmtp_machine.proofs.message.say_verdicts.Given as goal

abbrev pub invariant-loop-verdict : goal.invariant-loop-verdict
invariant-loop-verdict l = record {
  room : vec_len l.out + (length l.verdicts - l.verdict-index) * 40 ≤ vec_capacity l.out;
  said : l.out.items ≡ l.initial.out.items ++ wire l.host (map verdict_reply (take l.verdict-index l.verdicts));
}
