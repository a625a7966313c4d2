use Rattle.std.proofs.Common.{rules}
use Rattle.clap.specs.Matches.{found_of}
use Rattle.command_line.proofs.GivenLaws.{no_name, some_name}
use Rattle.command_line.proofs.asked.set_name.Goals as goal

pub returns-in_default : goal.returns-in_default
returns-in_default c = no_name (found_of c.args.matches.now) c.args.name.now c.args.value.now.items c.get_str.result c.get_str.ensures (search rules)

pub returns : goal.returns
returns c = some_name (found_of c.args.matches.now) c.args.name.now c.args.value.now.items _ c.get_str.result c.in-Some.text c.get_str.ensures (search rules) (search rules)
