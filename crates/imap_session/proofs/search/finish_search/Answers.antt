use Rattle.imap_session.specs.Commands.{says}
use Rattle.imap_session.proofs.Runs.{reaches_here}
use Rattle.imap_session.proofs.search.finish_search.Goals as goal
use Rattle.imap_session.specs.declared.texts.ResponseText.TheVariants as texts
use Rattle.imap_session.specs.Texts.{response_text}
use Rattle.imap_grammar.specs.declared.command.Verb.TheVariants as verbs

pub returns-in_ok-show : goal.returns-in_ok-show
returns-in_ok-show g c tag now = rw c.if-search.true (c.in_ok-show.ensures.done (says (response_text (texts.Completed verbs.UidSearch))) tag now)

pub returns-else-search : goal.returns-else-search
returns-else-search g c tag now = rw c.if-search.false
    (reaches_here g.S.Store.step tag now (says (response_text (texts.Completed verbs.Search))) _ _)
