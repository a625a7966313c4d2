use Rattle.std.proofs.Common.{rules}
use Rattle.command_line.proofs.WordLaws.{adds_next}
use Rattle.command_line.proofs.options.with_options.Goals as goal

pub loop-index-preserved : goal.loop-index-preserved
loop-index-preserved c =
    adds_next c.args.options.now c.loop-index.index c.args.subcommand c.loop-index.subcommand c.in_ok-subcommand.subcommand c.option.result _ (search rules)
    c.loop-index.invariant c.in_ok-subcommand.ensures c.option.ensures.local c.option.ensures.rule
