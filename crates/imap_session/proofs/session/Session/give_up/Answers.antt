use Rattle.std.proofs.Common.{◌∙◌, refl, sym}
use Rattle.imap_session.specs.Exchange.{ForNothing, bye}
use Rattle.imap_session.specs.Commands.{given_up}
use Rattle.imap_session.specs.Texts.{response_text}
use Rattle.imap_session.proofs.Appends.{ended_again, leads_says, leads_waits}
use Rattle.imap_session.proofs.Lines.{given_as}
use Rattle.imap_session.proofs.session.Session.give_up.Goals as goal

pub returns-then-comes_unasked-clause-leads : goal.returns-then-comes_unasked-clause-leads
returns-then-comes_unasked-clause-leads g c =
    leads_waits c.args.tag.now (bye (response_text c.args.parting)) ForNothing c.args.self.now _ (given_up c.args.rest.now c.args.told c.args.parting) (g.O.Outlet.said c.args.out.now) (g.O.Outlet.said c.put_bye.new.out)
    (given_as c.args.rest.now c.args.told c.args.parting _ (sym c.comes_unasked.ensures ∙ c.if-comes_unasked.true)) c.put_bye.ensures.text (ended_again c.self.view_is)

pub returns-clause-leads : goal.returns-clause-leads
returns-clause-leads g c =
    leads_says c.args.tag.now (response_text c.args.told) c.args.self.now c.args.self.now (given_up c.args.rest.now c.args.told c.args.parting) (g.O.Outlet.said c.args.out.now) (g.O.Outlet.said c.put_last.new.out)
    (given_as c.args.rest.now c.args.told c.args.parting _ (sym c.comes_unasked.ensures ∙ c.if-comes_unasked.false)) c.put_last.ensures.text refl
