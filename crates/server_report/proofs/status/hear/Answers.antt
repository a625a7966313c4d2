use Rattle.std.proofs.Common.{◌≡◌, ℕ, ◌+◌, List, ◌++◌, Option, rules, take, drop, sym, ap, subst, ◌∙◌, take-add}
use Rattle.std.specs.Io.KnownBytes.{Consumes}
use Rattle.std.proofs.KnownBytes.{Consumes-trans}
use Rattle.server_report.proofs.status.hear.Goals as goal

-- What one read more brought stands behind what came before.
consumed_more : (a b c : Option (List ℕ)) (came n : ℕ) (old new : List ℕ) → Consumes a b (take came old) → take came new ≡ take came old → Consumes b c (take n (drop came new))
    → Consumes a c (take (came + n) new)
consumed_more a b c came n old new first same second =
    subst (Consumes a c) (ap (λ l. l ++ take n (drop came new)) (sym same) ∙ sym (take-add came n new)) (Consumes-trans a b c _ _ first second)

pub returns-in-Some-clause-came : goal.returns-in-Some-clause-came
returns-in-Some-clause-came g c =
    consumed_more _ _ _ c.loop.came c.in_ok-count.count c.loop.buffer c.read_behind.new.buffer c.loop.invariant.consumed c.read_behind.ensures.front c.in_ok-count.ensures.came

pub loop-preserved : goal.loop-preserved
loop-preserved g c = record {
  len = search rules;
  room = search rules;
  grew = search rules;
  none = λ _. c.in_default.ensures.none;
  consumed = consumed_more _ _ _ c.loop.came c.in_ok-count.count c.loop.buffer c.read_behind.new.buffer c.loop.invariant.consumed c.read_behind.ensures.front c.in_ok-count.ensures.came;
}
