use Rattle.std.proofs.Common.{◌≡◌, take}
use Rattle.std.specs.Prelude.{map}
use Rattle.settings.proofs.directory.borrowed_words.Given as goal

abbrev pub invariant-loop-word : goal.invariant-loop-word
invariant-loop-word l = map (λ v. v.now) l.borrowed.items ≡ map (λ w. w.items) (take l.word-index l.words)
