use Rattle.std.proofs.Common.{refl}
use Rattle.clap.specs.Matches.{found_of}
use Rattle.clap.specs.Words.{rows_of}
use Rattle.command_line.proofs.asked.script_of.Goals as goal

pub returns-clause-asks : goal.returns-clause-asks
returns-clause-asks c = (rows_of (found_of c.args.matches.now), refl, c.in_ok-config.ensures.given, c.form_of.ensures)
