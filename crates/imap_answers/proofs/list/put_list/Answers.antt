use Rattle.std.proofs.Common.{ℕ, List, ◌++◌, flat_map, rules, ap, sym, ◌∙◌}
use Rattle.imap_answers.specs.Answers.{listed}
use Rattle.imap_answers.proofs.GlobLaw.{list_names}
use Rattle.imap_answers.proofs.list.put_list.Goals as goal

pub returns-clause-ok : goal.returns-clause-ok
returns-clause-ok c =
    c.in_ok-put_names.ensures.ok
    ∙ ap (λ (l : List ℕ). c.args.out.now.items ++ l)
    (ap (λ (w : List ℕ). flat_map (λ name. listed c.args.listing w name.now) c.args.names.now) (c.deref.ensures.value ∙ c.in_ok-whole.ensures)
    ∙ sym (list_names (λ name. name.now) c.args.listing c.args.reference.now c.args.pattern.now c.args.names.now (search rules)))
