use Rattle.std.proofs.Common.{rules, codes, subst, sym}
use Rattle.std.specs.Prelude.{IfOk}
use Rattle.clap.specs.Matches.{found_of}
use Rattle.clap.specs.Words.{rows_of}
use Rattle.command_line.specs.Asking.{AsksBy}
use Rattle.command_line.proofs.GivenLaws.{found_is}
use Rattle.command_line.proofs.asked.served_in.Goals as goal

pub returns-clause-asks : goal.returns-clause-asks
returns-clause-asks c =
    let found = found_is c.args.matches.now (codes "serve") (rows_of (found_of c.in-Some.serve.now)) (search rules) (search rules) in
    subst (λ o. IfOk c.server_of.result (AsksBy o)) (sym found) c.server_of.ensures.asks
