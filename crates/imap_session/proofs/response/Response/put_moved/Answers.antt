use Rattle.std.proofs.Common.{ap, ◌∙◌, ◌++◌, codes, List, ℕ}
use Rattle.imap_session.specs.Commands.{copy_code}
use Rattle.imap_session.specs.Response.{Response}
use Rattle.imap_session.specs.inner.Seen.{batch_of}
use Rattle.imap_session.proofs.Verdicts.{moved_in_parts}
use Rattle.imap_session.proofs.response.Response.put_moved.Goals as goal

pub returns : goal.returns
returns g c = (
  ap (λ (r : Response). r.tag) c.self.view_is,
  c.put-2.ensures.lot ∙ (c.put_copy_code.ensures.lot ∙ (c.put.ensures.lot ∙ ap (λ (r : Response). r.lot) c.self.view_is)),
  moved_in_parts c.args.self.now.text (copy_code c.args.uidvalidity (batch_of c.args.batch.now)) (g.O.Outlet.said c.put.new.self) (g.O.Outlet.said c.put_copy_code.new.out) (g.O.Outlet.said c.put-2.new.self)
      (c.put.ensures.said ∙ ap (λ (t : List ℕ). t ++ codes "* ") (ap (λ (r : Response). r.text) c.self.view_is)) c.put_copy_code.ensures.text c.put-2.ensures.said,
)
