use Rattle.imap_grammar.specs.declared.command.Command.TheVariants as commands
use Rattle.imap_session.specs.declared.standing.After.TheVariants.{Bye}
use Rattle.imap_session.specs.Exchange.{Done}
use Rattle.imap_session.specs.Commands.{completed, wrong_state}
use Rattle.std.proofs.Common.{refl}
use Rattle.imap_session.proofs.Naming.{subscribes}
use Rattle.imap_session.proofs.Runs.{reaches_here}
use Rattle.imap_session.proofs.Ending.{moves_still}
use Rattle.imap_session.proofs.turn.carry_out.Goals as goal
use Rattle.imap_session.specs.declared.texts.ResponseText.TheVariants as texts
use Rattle.imap_session.specs.Texts.{response_text}
use Rattle.imap_grammar.specs.declared.command.Verb.TheVariants as verbs

pub returns-in-Capability : goal.returns-in-Capability
returns-in-Capability g c login mailing tag now was = rw (c.in-Capability.is, ← was) (reaches_here g.S.Store.step tag now (completed commands.Capability) _ _)

pub returns-in-Namespace : goal.returns-in-Namespace
returns-in-Namespace g c login mailing tag now was = rw (c.in-Namespace.is, ← was) (reaches_here g.S.Store.step tag now (completed commands.Namespace) _ _)

pub returns-in-Logout : goal.returns-in-Logout
returns-in-Logout g c login mailing tag now was = rw (c.in-Logout.is, ← was) (reaches_here g.S.Store.step tag now (Done (response_text (texts.Completed verbs.Logout)) Bye) _ _)

pub returns-in-Login : goal.returns-in-Login
returns-in-Login g c login mailing tag now was = rw (c.in-Login.is, ← was) (reaches_here g.S.Store.step tag now wrong_state _ _)

pub returns-in-Authenticate : goal.returns-in-Authenticate
returns-in-Authenticate g c login mailing tag now was = rw (c.in-Authenticate.is, ← was) (reaches_here g.S.Store.step tag now wrong_state _ _)

pub returns-in-StartTls : goal.returns-in-StartTls
returns-in-StartTls g c login mailing tag now was = rw (c.in-StartTls.is, ← was) (reaches_here g.S.Store.step tag now wrong_state _ _)

pub returns-in-Noop : goal.returns-in-Noop
returns-in-Noop g c login mailing = rw c.in-Noop.is (moves_still g.S.Store.step c.args.selected.now _ _ _ _ _ _ c.note_nothing.result c.note_nothing.ensures)

pub returns-in-Check : goal.returns-in-Check
returns-in-Check g c login mailing = rw c.in-Check.is (moves_still g.S.Store.step c.args.selected.now _ _ _ _ _ _ c.check.result c.check.ensures)

pub returns-in-Lsub : goal.returns-in-Lsub
returns-in-Lsub g c login mailing = rw c.in-Lsub.is (moves_still g.S.Store.step c.args.selected.now _ _ _ _ _ _ c.list_subscribed.result c.list_subscribed.ensures)

pub returns-in-Subscribe : goal.returns-in-Subscribe
returns-in-Subscribe g c login mailing =
    rw c.in-Subscribe.is (moves_still g.S.Store.step c.args.selected.now _ _ _ _ _ _ c.subscribe.result
    (subscribes g.S.Store.step c.args.folders.now c.in-Subscribe.name (commands.Subscribe c.in-Subscribe.name) verbs.Subscribe _ _ c.subscribe.result refl c.subscribe.ensures.ok c.subscribe.ensures.err))

pub returns-in-Unsubscribe : goal.returns-in-Unsubscribe
returns-in-Unsubscribe g c login mailing =
    rw c.in-Unsubscribe.is (moves_still g.S.Store.step c.args.selected.now _ _ _ _ _ _ c.subscribe-in-Unsubscribe.result
    (subscribes g.S.Store.step c.args.folders.now c.in-Unsubscribe.name (commands.Unsubscribe c.in-Unsubscribe.name) verbs.Unsubscribe _ _ c.subscribe-in-Unsubscribe.result refl c.subscribe-in-Unsubscribe.ensures.ok c.subscribe-in-Unsubscribe.ensures.err))

pub returns-in-List : goal.returns-in-List
returns-in-List g c login mailing = rw c.in-List.is (moves_still g.S.Store.step c.args.selected.now _ _ _ _ _ _ c.list_folders.result c.list_folders.ensures)

pub returns-in-Status : goal.returns-in-Status
returns-in-Status g c login mailing = rw c.in-Status.is (moves_still g.S.Store.step c.args.selected.now _ _ _ _ _ _ c.count_mailbox.result c.count_mailbox.ensures)

pub returns-in-Expunge : goal.returns-in-Expunge
returns-in-Expunge g c login mailing = rw c.in-Expunge.is (moves_still g.S.Store.step c.args.selected.now _ _ _ _ _ _ c.expunge.result c.expunge.ensures)

pub returns-in-UidExpunge : goal.returns-in-UidExpunge
returns-in-UidExpunge g c login mailing = rw c.in-UidExpunge.is (moves_still g.S.Store.step c.args.selected.now _ _ _ _ _ _ c.uid_expunge.result c.uid_expunge.ensures)

pub returns-in-Fetch : goal.returns-in-Fetch
returns-in-Fetch g c login mailing = rw c.in-Fetch.is (moves_still g.S.Store.step c.args.selected.now _ _ _ _ _ _ c.fetch.result c.fetch.ensures)

pub returns-in-Search : goal.returns-in-Search
returns-in-Search g c login mailing = rw c.in-Search.is (moves_still g.S.Store.step c.args.selected.now _ _ _ _ _ _ c.search_selected.result c.search_selected.ensures)

pub returns-in-Store : goal.returns-in-Store
returns-in-Store g c login mailing = rw c.in-Store.is (moves_still g.S.Store.step c.args.selected.now _ _ _ _ _ _ c.store_flags.result c.store_flags.ensures)

pub returns-in-Close : goal.returns-in-Close
returns-in-Close g c login mailing = rw c.in-Close.is (c.close.ensures c.args.response.now)

pub returns-in-Unselect : goal.returns-in-Unselect
returns-in-Unselect g c login mailing = rw c.in-Unselect.is (c.unselect.ensures c.args.response.now)

pub returns-in-Id : goal.returns-in-Id
returns-in-Id g c login mailing tag now was = rw (c.in-Id.is, ← was) (reaches_here g.S.Store.step tag now (completed commands.Id) _ _)

pub returns-in-Enable : goal.returns-in-Enable
returns-in-Enable g c login mailing tag now was = rw (c.in-Enable.is, ← was) (reaches_here g.S.Store.step tag now (completed commands.Enable) _ _)
