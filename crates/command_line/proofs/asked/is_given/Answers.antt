use Rattle.std.proofs.Common.{◌∙◌}
use Rattle.clap.specs.Matches.{found_of}
use Rattle.command_line.proofs.GivenLaws.{no_flag, some_flag}
use Rattle.command_line.proofs.asked.is_given.Goals as goal

pub returns-in-Some : goal.returns-in-Some
returns-in-Some c = c.is_flag.ensures ∙ some_flag (found_of c.args.matches.now) c.args.name.now c.get_str.result c.in-Some.value c.get_str.ensures c.in-Some.is

pub returns-in-None : goal.returns-in-None
returns-in-None c = no_flag (found_of c.args.matches.now) c.args.name.now c.get_str.result c.get_str.ensures c.in-None.is
