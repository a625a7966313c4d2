use Rattle.session_thread.specs.Life.{carried_of}
use Rattle.imap_session.proofs.Following.{verdict_follows}
use Rattle.session_thread.specs.Locks.{Holds}
use Rattle.session_thread.proofs.Spoken.{told_verdict}
use Rattle.session_thread.proofs.speaking.hear_verdict.Goals as goal

pub returns-clause-told : goal.returns-clause-told
returns-clause-told g c = (
  carried_of c.in-Some.append.now c.in_ok-verdict.verdict,
  c.in_ok-verdict.ensures.carried,
  λ d s.
      told_verdict d c.in-Some.append.now c.in_ok-verdict.verdict c.args.store.now c.carry.new.self c.appended.new.store (g.O.Outlet.said c.args.out.now) (g.O.Outlet.said c.hold.new.self) (g.O.Outlet.said c.appended.new.out) c.in-Ok.field-0 c.args.connection.now c.appended.new.self s
      c.in-Some.ensures c.in_ok-verdict.ensures.same c.in_ok-hold.ensures.said c.uid_fits.ensures (c.in-Ok.ensures.heard d s),
)

pub returns-clause-follows : goal.returns-clause-follows
returns-clause-follows g c =
    verdict_follows Holds c.args.connection.now.session c.in_ok-verdict.verdict c.carry.new.self c.appended.new.store (g.O.Outlet.said c.hold.new.self) (g.O.Outlet.said c.appended.new.out) c.in-Ok.field-0 c.appended.new.self.session c.in-Ok.ensures.session
