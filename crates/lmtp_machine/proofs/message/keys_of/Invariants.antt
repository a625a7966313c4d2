use Rattle.std.proofs.Common.{◌≡◌, ℕ, ◌≤◌, length, take, vec_len, vec_capacity}
use Rattle.lmtp_machine.specs.Dialogue.{keys_from}
use Rattle.lmtp_machine.proofs.message.keys_of.Given as goal

abbrev pub invariant-loop-i : goal.invariant-loop-i
invariant-loop-i l = record {
  room : length l.recipients ≤ vec_capacity l.keys;
  len : vec_len l.keys ≡ l.i;
  keys : (most : ℕ) → l.keys.items ≡ keys_from (record { seat = l.seat; serial = l.serial; max_message = most }) l.message 0 (take l.i l.recipients);
}
