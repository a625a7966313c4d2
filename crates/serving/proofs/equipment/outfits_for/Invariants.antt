use Rattle.std.proofs.Common.{◌≡◌, ◌≤◌, ◌+◌, All, length, vec_capacity}
use Rattle.serving_workers.specs.Leaving.{IsOutfit, IsFresh}
use Rattle.serving.proofs.equipment.outfits_for.Given as goal

abbrev pub invariant-loop-line : goal.invariant-loop-line
invariant-loop-line g l =
    (length l.all.items + length l.line-iterator.rest.items ≡ length l.fn.lines.items) × (length l.fn.lines.items ≤ vec_capacity l.all)
    × All (λ o. IsOutfit g.L.Line.told o) l.all.items × All (λ line. IsFresh (g.L.Line.told line)) l.line-iterator.rest.items
