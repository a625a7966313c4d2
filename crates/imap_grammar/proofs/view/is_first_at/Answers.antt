use Rattle.std.proofs.Common.{rules, ◌<◌, ◌≡◌, ◌-◌, length, get_or}
use Rattle.std.proofs.lemmas.Bool.{ltb-true}
use Rattle.imap_grammar.proofs.Viewing.{first_behind_less}
use Rattle.imap_grammar.proofs.view.is_first_at.Goals as goal

pub returns-clause-first : goal.returns-clause-first
returns-clause-first c is =
    let view = c.args.view.now in
    let there : get_or view c.args.index 0 ≡ c.args.uid = search rules in
    let within : c.args.index < length view = search rules in
    first_behind_less c.args.uid view c.args.index c.requires within there (ltb-true _ _ is)
