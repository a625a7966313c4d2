use Rattle.std.proofs.Common.{rules, List, ℕ, ◌++◌, ◌+◌, ◌-◌, ◌≤◌, ◌≡◌, drop, take, ap, sym, ◌∙◌, append_assoc, arith}
use Rattle.imap_grammar.specs.Sets.{at_positions}
use Rattle.imap_grammar.specs.inner.Choosing.{is_covered}
use Rattle.imap_grammar.proofs.ChosenAt.{chosen_past, chosen_here}
use Rattle.imap_grammar.proofs.positions.choose_range.Goals as goal

pub returns-then-first-last-clause-chosen : goal.returns-then-first-last-clause-chosen
returns-then-first-last-clause-chosen c rest above =
    ap (λ (l : List ℕ). c.args.chosen.now.items ++ l)
    (chosen_past c.args.range rest c.args.view.now c.args.next c.requires.0 c.requires.1 (λ p a b d e. search (rules, arith)))

pub returns-clause-chosen : goal.returns-clause-chosen
returns-clause-chosen c rest above =
    let taken : List ℕ = take (c.min-last.result - (c.max-first.result - 1)) (drop (c.max-first.result - 1) c.args.view.now) in
    let behind : ℕ → List ℕ = λ k. at_positions (is_covered rest) (c.min-last.result + 1) (drop k c.args.view.now) in
    let items : c.extend_from_slice.new.self.items ≡ c.args.chosen.now.items ++ taken = c.in_ok-extend_from_slice.ensures.items in
    let same : c.min-last.result ≡ c.min-last.result + 1 - 1 = omega arith in
    let one : 1 ≤ c.args.next = c.requires.0 in
    ap (λ (l : List ℕ). c.args.chosen.now.items ++ l)
    (chosen_here c.args.range rest c.args.view.now c.args.next c.max-first.result c.min-last.result one (search (rules, arith)) (search (rules, arith)) (search (rules, arith))
    (search (rules, arith)) (λ p a b. search (rules, arith)) (search (rules, arith)) (λ p a b. search (rules, arith)) above)
    ∙ sym (append_assoc c.args.chosen.now.items taken (behind c.min-last.result))
    ∙ ap (λ (l : List ℕ). l ++ behind c.min-last.result) (sym items)
    ∙ ap (λ (k : ℕ). c.extend_from_slice.new.self.items ++ behind k) same
