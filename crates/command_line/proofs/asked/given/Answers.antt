use Rattle.std.proofs.Common.{rules}
use Rattle.clap.specs.Matches.{found_of}
use Rattle.command_line.proofs.GivenLaws.{not_given, read_digits, was_given}
use Rattle.command_line.proofs.asked.given.Goals as goal

pub returns-in_default-clause-value : goal.returns-in_default-clause-value
returns-in_default-clause-value c = not_given (found_of c.args.matches.now) c.args.option.name.now c.args.default c.get_str.result c.get_str.ensures (search rules)

pub returns-in-Ok-clause-value : goal.returns-in-Ok-clause-value
returns-in-Ok-clause-value c =
    was_given (found_of c.args.matches.now) c.args.option.name.now c.args.default c.in-Ok.value c.get_str.result c.in-Some.text c.get_str.ensures (search rules)
    (read_digits c.in-Some.text.now c.parse.result c.in-Ok.value c.parse.ensures.value.0 (search rules) (search rules))
