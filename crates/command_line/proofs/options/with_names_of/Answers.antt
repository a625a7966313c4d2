use Rattle.std.proofs.Common.{◌∷◌, [], codes}
use Rattle.std.proofs.lemmas.Result.{IfOk-weaker}
use Rattle.command_line.specs.Words.{name_rule}
use Rattle.command_line.proofs.WordLaws.{adds_first, adds_one}
use Rattle.command_line.proofs.options.with_names_of.Goals as goal

pub returns : goal.returns
returns c =
    let host = name_rule (codes "host") in
    let first = adds_first c.args.subcommand c.in_ok-arg.field-0 c.name.result host c.in_ok-arg.ensures c.name.ensures.local c.name.ensures.rule in
    IfOk-weaker c.arg-2.result _ _ (λ r h. adds_one (host ∷ []) c.args.subcommand c.in_ok-arg.field-0 r c.name-2.result (name_rule (codes "domain")) first h c.name-2.ensures.local c.name-2.ensures.rule) c.arg-2.ensures
