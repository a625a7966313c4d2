use Rattle.std.proofs.Common.{◌≡◌, ◌≤◌, vec_len}
use Rattle.tests_threads.proofs.tests.rounds.spend_channels.Given as goal

abbrev pub invariant-loop-channel : goal.invariant-loop-channel
invariant-loop-channel g l = (vec_len l.hands ≤ vec_len l.channels) × (vec_len l.receivers ≡ vec_len l.channels)

abbrev pub decreases-loop-channel : goal.decreases-loop-channel
decreases-loop-channel g l = vec_len l.channels
