use Rattle.imap_session.proofs.Parts.{given_up_shows_none, unfinished_shows_none}
use Rattle.imap_session.proofs.laws.parts_show_none.Goals as goal

pub returns-clause-unfinished : goal.returns-clause-unfinished
returns-clause-unfinished c = unfinished_shows_none

pub returns-clause-given_up : goal.returns-clause-given_up
returns-clause-given_up c = given_up_shows_none
