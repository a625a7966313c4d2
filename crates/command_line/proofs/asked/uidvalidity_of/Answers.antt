use Rattle.clap.specs.Matches.{found_of}
use Rattle.command_line.proofs.GivenLaws.{no_uidvalidity, some_uidvalidity}
use Rattle.command_line.proofs.asked.uidvalidity_of.Goals as goal

pub returns-in-Some : goal.returns-in-Some
returns-in-Some c = some_uidvalidity (found_of c.args.matches.now) c.get_str.result c.in-Some.field-0 c.get_str.ensures c.in-Some.is

pub returns-in-None : goal.returns-in-None
returns-in-None c = no_uidvalidity (found_of c.args.matches.now) c.get_str.result c.get_str.ensures c.in-None.is
