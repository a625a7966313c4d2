use Rattle.std.proofs.Common.{codes}
use Rattle.std.proofs.lemmas.Result.{IfOk-weaker}
use Rattle.command_line.specs.Words.{flag_rule, name_rule}
use Rattle.command_line.proofs.WordLaws.{adds_one}
use Rattle.command_line.proofs.options.with_log.Goals as goal

pub returns : goal.returns
returns c =
    let limit = name_rule (codes "memory") in
    let limited = adds_one _ c.args.subcommand c.in_ok-numbered.numbered c.in_ok-arg.field-0 c.memory.result limit c.in_ok-numbered.ensures c.in_ok-arg.ensures c.memory.ensures.local c.memory.ensures.rule in
    IfOk-weaker c.arg-2.result _ _ (λ r h. adds_one _ c.args.subcommand c.in_ok-arg.field-0 r c.flag.result (flag_rule (codes "log")) limited h c.flag.ensures.local c.flag.ensures.rule) c.arg-2.ensures
