-- What bodies and proofs say besides: a client's view while messages are taken out of it.
use Rattle.std.specs.Prelude.{ℕ, List, nat_lt}
use Rattle.std.specs.List.{prefix_len}

-- how many of these indices, which rise, are below this one
abbrev pub below : ℕ → List ℕ → ℕ
below index gone = prefix_len (λ i. nat_lt i index) gone
