use Rattle.std.proofs.Common.{rules, codes, subst, sym}
use Rattle.std.specs.Prelude.{IfOk}
use Rattle.clap.specs.Matches.{found_of}
use Rattle.clap.specs.Words.{rows_of}
use Rattle.command_line.specs.Asking.{AsksBy}
use Rattle.command_line.proofs.GivenLaws.{found_is}
use Rattle.command_line.proofs.asked.asked_in.Goals as goal

pub returns-in-Some-clause-asks : goal.returns-in-Some-clause-asks
returns-in-Some-clause-asks c =
    let found = found_is c.args.matches.now (codes "script") (rows_of (found_of c.in-Some.script.now)) (search rules) (search rules) in
    subst (λ o. IfOk c.script_of.result (AsksBy o)) (sym found) c.script_of.ensures.asks
