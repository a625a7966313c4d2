use Rattle.std.proofs.Common.{◌≡◌, ℕ, List, true, ◌++◌, rules, ap, sym, ◌∙◌}
use Rattle.imap_answers.specs.Answers.{is_listed}
use Rattle.imap_answers.proofs.GlobLaw.{listed_true}
use Rattle.imap_answers.proofs.list.put_name.Goals as goal

pub returns-clause-ok : goal.returns-clause-ok
returns-clause-ok c =
    let e : is_listed c.args.pattern.now c.args.name.now ≡ true = search rules in
    c.in_ok-write_name.ensures.ok ∙ ap (λ (l : List ℕ). c.args.out.now.items ++ l) (sym (listed_true c.args.listing c.args.pattern.now c.args.name.now e))
