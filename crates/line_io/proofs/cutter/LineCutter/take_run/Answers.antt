use Rattle.std.proofs.Common.{◌≡◌, ◌+◌, ◌-◌, ◌++◌, ap, sym, ◌∙◌, arith, take, length}
use Rattle.std.proofs.lemmas.List.{take_all, length-take, take-take}
use Rattle.std.proofs.lemmas.Bool.Decides.{nat_tests}
use Rattle.line_io.proofs.Lines.{fields, stands_run, kept_run}
use Rattle.line_io.proofs.cutter.LineCutter.take_run.Goals as goal
use Rattle.line_io.proofs.cutter.LineCutter.take_run.Goals.{then-len-room, else-len-room}

pub returns-clause-stands : goal.returns-clause-stands
returns-clause-stands c stream at =
    let f = fields _ _ _ _ c.args.self.now c.self.view_is c.requires in
    let n = c.before_lf-len.result in
    let piece = c.args.piece.now in
    let room = c.self.inside.max - c.len.result in
    let max : c.args.self.now.max ≡ c.self.inside.max = f.1 in
    let fits : length c.self.inside.bytes.items + room ≡ c.self.inside.max = omega (arith, c.self.invariant, c.self.inside.bytes.ok.0) in
    let kept : take c.if-len-room.kept piece ≡ take room (take n piece) = elim c.if-len-room.branch [
      | then-len-room w ↦ rw w.kept-is (sym (take_all room (take n piece) (omega (arith, length-take n piece))))
      | else-len-room w ↦ rw w.kept-is (sym (take-take room n piece (omega arith)))
    ] in
    stands_run c.args.self.now _ stream piece n (n - 1) at
    (omega arith)
    c.before_lf-len.ensures.within
    c.before_lf-len.ensures.none
    (sym f.1)
    (rw (f.0, max, f.2) (c.put.ensures.items ∙ ap (λ t. c.self.inside.bytes.items ++ t) kept ∙ kept_run c.self.inside.max c.self.inside.bytes.items (take n piece) room fits))
    (λ t. grind (arith, nat_tests))
    (λ t e. grind (arith, nat_tests))
