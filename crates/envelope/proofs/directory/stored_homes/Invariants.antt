use Rattle.std.proofs.Common.{◌≡◌, take}
use Rattle.std.specs.Prelude.{map}
use Rattle.envelope.specs.Names.{home_of}
use Rattle.envelope.proofs.directory.stored_homes.Given as goal

abbrev pub invariant-loop-word : goal.invariant-loop-word
invariant-loop-word l = l.stored.items ≡ map home_of (map (λ word. word.now) (take l.word-index l.words))
