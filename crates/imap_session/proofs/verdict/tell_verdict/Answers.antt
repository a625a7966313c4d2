use Rattle.std.proofs.Common.{subst}
use Rattle.imap_session.specs.declared.standing.After.TheVariants.{Go}
use Rattle.imap_session.specs.Commands.{says}
use Rattle.imap_session.specs.inner.Store.{Plays}
use Rattle.imap_session.proofs.Ending.{plays_said}
use Rattle.imap_session.proofs.Runs.{reaches_here}
use Rattle.imap_session.proofs.verdict.tell_verdict.Goals as goal
use Rattle.imap_session.specs.declared.texts.ResponseText.{ResponseText}
use Rattle.imap_session.specs.Texts.{response_text}

pub returns-in-Refused-clause-plays : goal.returns-in-Refused-clause-plays
returns-in-Refused-clause-plays g c mailing now =
    let text : ResponseText = c.refused_text.result in
    let response = c.args.response in
    let said = plays_said g.S.Store.step (response_text text) now (says (response_text text)) c.args.store.now c.args.store.now response response (g.O.Outlet.said c.conclude.new.out)
    (reaches_here g.S.Store.step response.tag now (says (response_text text)) c.args.store.now response) c.conclude.ensures.text in
    let at : ResponseText → Type 0 = λ w. Plays g.S.Store.step response.tag now now (says (response_text w)) c.args.store.now c.args.store.now response.text (g.O.Outlet.said c.conclude.new.out) Go in
    rw (c.in-Refused.is, c.conclude.ensures.after) (subst at c.refused_text.ensures said)
