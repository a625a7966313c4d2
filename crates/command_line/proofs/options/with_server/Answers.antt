use Rattle.std.proofs.Common.{codes}
use Rattle.std.proofs.lemmas.Result.{IfOk-weaker}
use Rattle.command_line.specs.Words.{logged_rules, number_rule}
use Rattle.command_line.proofs.WordLaws.{adds_one}
use Rattle.command_line.proofs.options.with_server.Goals as goal

pub returns : goal.returns
returns c =
    IfOk-weaker c.arg.result _ _ (λ r h. adds_one logged_rules c.args.subcommand c.in_ok-logged.logged r c.plain_option.result (number_rule (codes "status-port") 0 65535) c.in_ok-logged.ensures h c.plain_option.ensures.local c.plain_option.ensures.rule) c.arg.ensures
