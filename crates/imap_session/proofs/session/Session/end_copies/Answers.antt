use Rattle.imap_session.proofs.session.Session.end_copies.Goals as goal

pub returns-clause-plays : goal.returns-clause-plays
returns-clause-plays g c = rw (c.new-response.ensures, c.selected.ensures) at (c.tell_all-after.ensures.plays c.args.self.now)
