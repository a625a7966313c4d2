use Rattle.imap_session.specs.Exchange.{ForNothing, bye}
use Rattle.imap_session.specs.Commands.{awaiting_argument}
use Rattle.imap_session.specs.Texts.{response_text}
use Rattle.imap_session.specs.declared.texts.ResponseText.TheVariants as texts
use Rattle.imap_session.proofs.Appends.{argument_too_big, ended_again, leads_waits}
use Rattle.imap_session.proofs.session.Session.await_argument.Goals as goal

pub returns-then-found-gt-MOST_UNASKED-clause-leads : goal.returns-then-found-gt-MOST_UNASKED-clause-leads
returns-then-found-gt-MOST_UNASKED-clause-leads g c =
    let f = c.args.found in
    leads_waits f.tag.now (bye (response_text texts.LiteralTooBig)) ForNothing c.args.self.now _ (awaiting_argument f.before.now f.literal) (g.O.Outlet.said c.args.out.now) (g.O.Outlet.said c.put_bye.new.out)
    (argument_too_big f.before.now f.literal c.if-found.false c.if-found-gt-MOST_UNASKED.true) c.put_bye.ensures.text (ended_again c.self.view_is)
