use Rattle.std.proofs.Common.{◌≡◌, [], None, map, sym, ap, ◌∙◌, rules}
use Rattle.slab.specs.Slab.{entries}
use Rattle.cursor_set.proofs.LeastLaws.{number_of, numbers_of, least_after, least_is}
use Rattle.cursor_set.proofs.set.least_in.Goals as goal

pub returns-clause-none : goal.returns-clause-none
returns-clause-none c =
    let ended : c.loop-slot._slot-iterator ≡ [] = search rules in
    let is : c.loop-slot.least ≡ least_after c.args.base None (map number_of (entries c.args.slots.now)) =
    ap (λ es. least_after c.args.base c.loop-slot.least (map number_of es)) (sym ended) ∙ c.loop-slot.invariant.2 in
    (least_is c.args.base _ c.loop-slot.least (is ∙ ap (least_after c.args.base None) (numbers_of 0 c.args.slots.now.slots))).0

pub returns-clause-least : goal.returns-clause-least
returns-clause-least c =
    let ended : c.loop-slot._slot-iterator ≡ [] = search rules in
    let is : c.loop-slot.least ≡ least_after c.args.base None (map number_of (entries c.args.slots.now)) =
    ap (λ es. least_after c.args.base c.loop-slot.least (map number_of es)) (sym ended) ∙ c.loop-slot.invariant.2 in
    (least_is c.args.base _ c.loop-slot.least (is ∙ ap (least_after c.args.base None) (numbers_of 0 c.args.slots.now.slots))).1
