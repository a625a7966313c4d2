use Rattle.std.proofs.Common.{codes}
use Rattle.std.proofs.lemmas.Result.{IfOk-weaker}
use Rattle.command_line.specs.Words.{flag_rule}
use Rattle.command_line.proofs.WordLaws.{adds_first}
use Rattle.command_line.proofs.options.with_script_options.Goals as goal

pub returns : goal.returns
returns c =
    IfOk-weaker c.arg.result _ _ (λ r h. adds_first c.args.subcommand r c.json.result (flag_rule (codes "json")) h c.json.ensures.local c.json.ensures.rule) c.arg.ensures
