use Rattle.std.proofs.Common.{rules}
use Rattle.clap.specs.Matches.{found_of}
use Rattle.command_line.proofs.GivenLaws.{no_page, some_page}
use Rattle.command_line.proofs.asked.given_page_port.Goals as goal

pub returns-in_default : goal.returns-in_default
returns-in_default c = no_page (found_of c.args.matches.now) c.get_str.result c.get_str.ensures (search rules)

pub returns : goal.returns
returns c =
    some_page (found_of c.args.matches.now) c.get_str.result c.in-Some._text c.in_ok-number.number c.in_ok-port.port c.get_str.ensures (search rules) c.in_ok-number.ensures.value
    c.in_ok-port.ensures.same
