use Rattle.std.proofs.Common.{◌∙◌, []}
use Rattle.imap_session.specs.Commands.{wrong_state}
use Rattle.imap_session.proofs.Lots.{anybody}
use Rattle.imap_session.specs.Commands.{appended_words, says, told_appended}
use Rattle.imap_session.proofs.Ending.{plays_said, plays_stopped}
use Rattle.imap_session.proofs.verdict.tell_uid.Goals as goal

pub returns-in-Ok-clause-plays : goal.returns-in-Ok-clause-plays
returns-in-Ok-clause-plays g c now =
    let words = appended_words c.args.uidvalidity c.args.uid in
    plays_said g.S.Store.step words now (told_appended c.args.selected c.args.uid c.args.uidvalidity) _ _ c.args.response _ _
    (c.in-Ok.ensures.done (says words) c.args.response.tag now) c.end_appended.ensures.text

pub returns-in-Err-clause-plays : goal.returns-in-Err-clause-plays
returns-in-Err-clause-plays g c now =
    let words = appended_words c.args.uidvalidity c.args.uid in
    plays_stopped g.S.Store.step now (told_appended c.args.selected c.args.uid c.args.uidvalidity) c.in-Err.fault _ _ c.args.response _ _ c.conclude.result
    (c.in-Err.ensures.done (says words) c.args.response.tag now) c.conclude.ensures.text c.conclude.ensures.after

pub returns-in-Ok-clause-lot : goal.returns-in-Ok-clause-lot
returns-in-Ok-clause-lot g c = c.end_appended.ensures.lot ∙ (c.in-Ok.ensures.done wrong_state [] anybody).wrote.1

pub returns-in-Err-clause-lot : goal.returns-in-Err-clause-lot
returns-in-Err-clause-lot g c = c.conclude.ensures.lot ∙ (c.in-Err.ensures.done wrong_state [] anybody).wrote.1
