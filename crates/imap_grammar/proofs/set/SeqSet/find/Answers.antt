use Rattle.std.proofs.Common.{rules, ◌≡◌, ◌∙◌, map, sym, ap, subst}
use Rattle.std.specs.List.Sorted.{IsStrictlyIncreasing}
use Rattle.imap_grammar.specs.Sets.{named_at}
use Rattle.imap_grammar.specs.declared.view.Named.{Named}
use Rattle.imap_grammar.proofs.Rising.{uids_named}
use Rattle.imap_grammar.proofs.set.SeqSet.find.Goals as goal

pub returns-clause-rising : goal.returns-clause-rising
returns-clause-rising c = λ rising.
    let shown = c.args.view.now in
    let named : c.in_ok-with_positions.field-0.items ≡ map (named_at shown) c.in_ok-uids.uids.items = search rules in
    subst IsStrictlyIncreasing (sym (ap (map (λ (m : Named). m.uid)) named ∙ uids_named shown c.in_ok-uids.uids.items)) (c.in_ok-uids.ensures.rising rising)
