use Rattle.std.proofs.Common.{◌≡◌, All, take, vec_len}
use Rattle.reckoning.specs.inner.Histories.{HasSentAll}
use Rattle.reckoning.proofs.learning.have_sent_all.Given as goal

abbrev pub invariant-loop-number : goal.invariant-loop-number
invariant-loop-number g l = (l.worked.items ≡ l.fn.worked.items) × (vec_len l.worked ≡ vec_len l.fn.worked) × All (HasSentAll l.front) (take l.number l.fn.worked.items)
