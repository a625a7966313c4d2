use Rattle.std.proofs.Common.{ap}
use Rattle.imap_session.specs.Exchange.{Standing}
use Rattle.imap_session.proofs.session.Session.hear_append.Goals as goal

pub returns-clause-plays : goal.returns-clause-plays
returns-clause-plays g c = rw (c.new-response.ensures, ap (λ (s : Standing). s.selected) c.self.view_is) at (c.tell_verdict-after.ensures.plays c.args.self.now.mailing c.args.self.now)
