use Rattle.std.proofs.Common.{codes}
use Rattle.clap.specs.Matches.{found_of}
use Rattle.command_line.proofs.SizeLaws.{no_memory, some_memory}
use Rattle.command_line.proofs.asked.given_memory.Goals as goal

pub returns-in_default : goal.returns-in_default
returns-in_default c = no_memory (found_of c.args.matches.now) (codes "memory") c.get_str.result c.get_str.ensures c.in_default.is

pub returns : goal.returns
returns c =
    some_memory (found_of c.args.matches.now) (codes "memory") c.get_str.result c.in-Some.text c.in-Some-size_of.size c.limit_of.result c.get_str.ensures c.in-Some.is
    c.in-Some-size_of.ensures c.limit_of.ensures
