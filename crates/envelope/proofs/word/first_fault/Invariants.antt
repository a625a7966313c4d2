use Rattle.std.proofs.Common.{◌≡◌, drop, take, []}
use Rattle.std.specs.Prelude.{map}
use Rattle.envelope.specs.Names.{home_of, first_fault}
use Rattle.envelope.proofs.word.first_fault.Given as goal

abbrev pub invariant-loop-i : goal.invariant-loop-i
invariant-loop-i l =
    first_fault [] (map home_of (map (λ w. w.now) l.words))
    ≡ first_fault (map home_of (map (λ w. w.now) (take l.i l.words))) (map home_of (map (λ w. w.now) (drop l.i l.words)))
