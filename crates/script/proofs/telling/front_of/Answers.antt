use Rattle.std.proofs.Common.{arith, length-take-le, sym}
use Rattle.std.proofs.lemmas.List.{take_all}
use Rattle.script.specs.Script.{most_bytes}
use Rattle.script.proofs.telling.front_of.Goals as goal

pub slice_bounds-result-end : goal.slice_bounds-result-end
slice_bounds-result-end c = let l = c.if-line-gt-MOST_BYTES.true in sym (length-take-le most_bytes c.args.line.now (omega (arith, l)))

pub returns-else-line-gt-MOST_BYTES : goal.returns-else-line-gt-MOST_BYTES
returns-else-line-gt-MOST_BYTES c = let l = c.if-line-gt-MOST_BYTES.false in sym (take_all most_bytes c.args.line.now (omega (arith, l)))
