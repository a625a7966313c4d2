use Rattle.std.proofs.Common.{rules, ◌≡◌, ◌∙◌, ℕ, ◌+◌, ◌<◌, List, length, get_or, arith, ap}
use Rattle.imap_grammar.specs.Sets.{at_positions, is_named, last_uid}
use Rattle.imap_grammar.specs.inner.Choosing.{is_covered}
use Rattle.imap_grammar.specs.declared.positions.PositionRange.{PositionRange}
use Rattle.imap_grammar.proofs.ChosenAt.{chosen_by_number}
use Rattle.imap_grammar.proofs.ranges.uids_in.Goals as goal

pub returns : goal.returns
returns c =
    let view : List ℕ = c.args.view.now in
    let positions : List PositionRange = c.in_ok-positions.positions.items in
    let named : (i : ℕ) → i < length view → is_covered positions (i + 1) ≡ is_named c.args.ranges.now (last_uid view) (get_or view i 0) = search rules in
    let chosen : c.in_ok-chosen_at.field-0.items ≡ at_positions (is_covered positions) 1 view = search rules in
    chosen ∙ chosen_by_number (is_covered positions) (is_named c.args.ranges.now (last_uid view)) 1 view
    (λ i l. let e : 1 + i ≡ i + 1 = omega arith in ap (λ (p : ℕ). is_covered positions p) e ∙ named i l)
