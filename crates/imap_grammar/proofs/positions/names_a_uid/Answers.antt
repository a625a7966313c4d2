use Rattle.std.proofs.Common.{◌∙◌}
use Rattle.imap_grammar.proofs.OneNamed.{uid_there}
use Rattle.imap_grammar.proofs.positions.names_a_uid.Goals as goal

pub returns : goal.returns
returns c =
    c.covers_one.ensures
    ∙ uid_there c.args.range.now c.positions_of_uids.result c.args.greatest c.args.view.now c.requires.greatest (λ i l. c.positions_of_uids.ensures i l)
