use Rattle.std.proofs.Common.{◌≡◌, map, take}
use Rattle.command_line.proofs.asked.bytes_of.Given as goal

abbrev pub invariant-loop-word : goal.invariant-loop-word
invariant-loop-word l = map (λ word. word.now) l.bytes.items ≡ map (λ word. word.now) (take l.word-index l.words)
