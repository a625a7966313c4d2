use Rattle.std.proofs.Common.{◌≡◌, []}
use Rattle.tests_mail.proofs.tests.dialogues.hear_all.Given as goal

abbrev pub invariant-loop-turn : goal.invariant-loop-turn
invariant-loop-turn l = l.machine.pending ≡ []
