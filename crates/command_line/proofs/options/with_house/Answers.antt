use Rattle.std.proofs.Common.{◌∷◌, [], codes}
use Rattle.std.proofs.lemmas.Result.{IfOk-weaker}
use Rattle.command_line.specs.Words.{flag_rule, mailbox_rule, name_rule}
use Rattle.command_line.proofs.WordLaws.{adds_one, joined}
use Rattle.command_line.proofs.options.with_house.Goals as goal

pub returns : goal.returns
returns c =
    let named = name_rule (codes "host") ∷ name_rule (codes "domain") ∷ [] in
    let both = joined named _ c.args.subcommand c.in_ok-named.named c.in_ok-numbered.numbered c.in_ok-named.ensures c.in_ok-numbered.ensures in
    let more = adds_one _ c.args.subcommand c.in_ok-numbered.numbered c.in_ok-arg.field-0 c.compatible.result (flag_rule (codes "compatible")) both c.in_ok-arg.ensures c.compatible.ensures.local c.compatible.ensures.rule in
    IfOk-weaker c.arg-2.result _ _ (λ r h. adds_one _ c.args.subcommand c.in_ok-arg.field-0 r c.mailboxes.result mailbox_rule more h c.mailboxes.ensures.local c.mailboxes.ensures.rule) c.arg-2.ensures
