use Rattle.std.proofs.Common.{◌∙◌, ap, sym, subst, ℕ, List}
use Rattle.imap_session.specs.declared.standing.After.TheVariants.{Submit}
use Rattle.imap_grammar.specs.declared.command.Command.TheVariants as commands
use Rattle.imap_session.specs.Commands.{completed, submitting}
use Rattle.imap_session.specs.Texts.{response_text}
use Rattle.imap_session.specs.inner.Appends.{Leads}
use Rattle.imap_session.specs.inner.Copies.{unsent_next}
use Rattle.imap_session.specs.inner.Seen.{batch_of}
use Rattle.imap_session.proofs.Appends.{leads_says}
use Rattle.imap_session.proofs.session.Session.submit_first.Goals as goal

pub returns-in-Ok-clause-leads : goal.returns-in-Ok-clause-leads
returns-in-Ok-clause-leads g c =
    let x = submitting c.args.self.now.mailing (batch_of c.args.batch) c.args.mailbox (completed (commands.Copy c.args.copy.now)) in
    let P : List ℕ → List ℕ → Type 0 = λ tag text. Leads tag c.args.self.now x c.args.response.text text Submit c.submit_next.new.self in
    subst (P c.args.response.tag) (sym c.release.ensures.text)
    (subst (λ (t : List ℕ). P t c.args.response.text) c.requires.tag (c.in-Ok.ensures.sent (completed (commands.Copy c.args.copy.now)) c.args.response.text))

pub returns-in-Err-clause-leads : goal.returns-in-Err-clause-leads
returns-in-Err-clause-leads g c =
    let now = c.args.self.now in
    let done = completed (commands.Copy c.args.copy.now) in
    leads_says c.args.response.tag (response_text c.unsent_text.result) now c.submit_next.new.self (submitting now.mailing (batch_of c.args.batch) c.args.mailbox done) c.args.response.text (g.O.Outlet.said c.end.new.out)
    (c.in-Err.ensures.unsent done ∙ ap (λ (k : List ℕ). unsent_next c.in-Err.unsent.spent c.args.mailbox k done) c.requires.gathered.none ∙ c.unsent_text.ensures c.args.mailbox)
    c.end.ensures.text c.in-Err.ensures.same
