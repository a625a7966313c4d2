use Rattle.imap_session.specs.Commands.{copy_code}
use Rattle.imap_session.specs.inner.Seen.{batch_of}
use Rattle.imap_session.proofs.Verdicts.{copied_in_parts}
use Rattle.imap_session.proofs.copied.end_copied.Goals as goal

pub returns-clause-text : goal.returns-clause-text
returns-clause-text g c =
    rw (← c.release-tag.ensures.text, ← c.release-tag.ensures.tag)
    (copied_in_parts (g.O.Outlet.said c.release-tag.new.out) c.release-tag.result.now (copy_code c.args.uidvalidity (batch_of c.args.batch.now)) (g.O.Outlet.said c.put.new.self) (g.O.Outlet.said c.put-2.new.self) (g.O.Outlet.said c.put_copy_code.new.out) (g.O.Outlet.said c.put-3.new.self)
    c.put.ensures.said c.put-2.ensures.said c.put_copy_code.ensures.text c.put-3.ensures.said)
