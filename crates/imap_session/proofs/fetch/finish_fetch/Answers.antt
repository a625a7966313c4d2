use Rattle.imap_session.specs.Commands.{says}
use Rattle.imap_session.proofs.Runs.{reaches_here}
use Rattle.imap_session.proofs.fetch.finish_fetch.Goals as goal
use Rattle.imap_session.specs.declared.texts.ResponseText.TheVariants as texts
use Rattle.imap_session.specs.Texts.{response_text}
use Rattle.imap_grammar.specs.declared.command.Verb.TheVariants as verbs

pub returns-in_ok-show : goal.returns-in_ok-show
returns-in_ok-show g c tag now = rw c.if-fetch.true (c.in_ok-show.ensures.done (says (response_text (texts.Completed verbs.UidFetch))) tag now)

pub returns-then-gone : goal.returns-then-gone
returns-then-gone g c tag now = rw (c.if-fetch.false, c.if-gone.true)
    (reaches_here g.S.Store.step tag now (says (response_text texts.MessagesGone)) _ _)

pub returns-else-gone : goal.returns-else-gone
returns-else-gone g c tag now = rw (c.if-fetch.false, c.if-gone.false)
    (reaches_here g.S.Store.step tag now (says (response_text (texts.Completed verbs.Fetch))) _ _)
