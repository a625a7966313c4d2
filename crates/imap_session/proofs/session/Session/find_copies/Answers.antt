use Rattle.std.proofs.Common.{◌∙◌, ap, sym}
use Rattle.imap_session.specs.contracts.session.Session.{the_view}
use Rattle.imap_session.specs.Exchange.{Standing}
use Rattle.std.proofs.lemmas.Result.{err_from_is_err_and}
use Rattle.imap_session.proofs.Copies.{copy_found, copy_missing, copy_refused, copy_starved}
use Rattle.imap_session.proofs.session.Session.find_copies.Goals as goal

pub returns-in-Some-clause-does : goal.returns-in-Some-clause-does
returns-in-Some-clause-does g c response =
    copy_refused g.S.Store.step c.args.self.now c.args.copy.now c.selected.result c.in-Some.text c.args.store.now response c.selected.ensures (c.in-Some.ensures.refused c.args.self.now)

pub returns-in_err-mailbox-clause-does : goal.returns-in_err-mailbox-clause-does
returns-in_err-mailbox-clause-does g c response =
    let p = err_from_is_err_and c.from_residual.result c.from_residual.ensures.1 in
    rw (p.1, p.2) (copy_starved g.S.Store.step c.args.self.now c.args.copy.now c.selected.result c.args.store.now response c.selected.ensures (c.in_default.ensures.taken c.args.self.now))

pub returns-in_default-2-clause-does : goal.returns-in_default-2-clause-does
returns-in_default-2-clause-does g c response =
    copy_missing g.S.Store.step c.args.self.now c.args.copy.now c.selected.result c.args.store.now response c.selected.ensures (c.in_default.ensures.taken c.args.self.now) (sym c.in_ok-mailbox.ensures ∙ c.in_default-2.is)

pub returns-clause-does : goal.returns-clause-does
returns-clause-does g c response =
    copy_found g.S.Store.step c.args.self.now c.args.copy.now c.selected.result c.in-Some-2.mailbox _ _ response c.find_messages.result c.selected.ensures (c.in_default.ensures.taken c.args.self.now) (sym c.in_ok-mailbox.ensures ∙ c.in-Some-2.is)
    (c.find_messages.ensures.does response c.args.self.now.mailing (sym (ap (λ (s : Standing). s.mailing.most) (ap the_view c.self-inside.view_is ∙ c.self.view_is))))
