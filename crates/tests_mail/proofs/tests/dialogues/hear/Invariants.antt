use Rattle.std.proofs.Common.{◌≡◌, ◌≤◌, vec_len, vec_capacity}
use Rattle.tests_mail.proofs.tests.dialogues.hear.Given as goal

abbrev pub invariant-loop-i : goal.invariant-loop-i
invariant-loop-i l = record { len : vec_len l.verdicts ≡ l.i; room : l.copies ≤ vec_capacity l.verdicts }
