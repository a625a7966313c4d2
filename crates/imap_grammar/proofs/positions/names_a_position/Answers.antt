use Rattle.std.proofs.Common.{◌∙◌}
use Rattle.imap_grammar.proofs.OneNamed.{position_there}
use Rattle.imap_grammar.proofs.positions.names_a_position.Goals as goal

pub returns : goal.returns
returns c view l = c.covers_one.ensures ∙ position_there c.args.range.now c.positions_of.result c.args.count view c.positions_of.ensures l
