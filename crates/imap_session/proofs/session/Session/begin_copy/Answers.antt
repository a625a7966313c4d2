use Rattle.std.proofs.Common.{refl}
use Rattle.imap_grammar.specs.declared.command.Command.TheVariants as commands
use Rattle.imap_session.specs.Commands.{completed, on_command, submitting}
use Rattle.imap_session.specs.Texts.{response_text}
use Rattle.imap_session.specs.inner.Seen.{batch_of}
use Rattle.imap_session.proofs.Copies.{had_led, had_played}
use Rattle.imap_session.proofs.Ending.{plays_said, plays_stopped}
use Rattle.imap_session.proofs.session.Session.begin_copy.Goals as goal

pub returns-in-Ok-Messages-clause-had : goal.returns-in-Ok-Messages-clause-had
returns-in-Ok-Messages-clause-had g c =
    let now = c.args.self.now in
    had_led g.S.Store.step now _ (on_command c.args.response.tag now (commands.Copy c.args.copy.now)) (submitting now.mailing (batch_of c.in-Ok-Messages.batch) c.in-Ok-Messages.mailbox (completed (commands.Copy c.args.copy.now))) _ _ c.args.response _ _
    ((rw (c.in-Ok-Messages.is, c.in-Ok-Messages.field-0-is) at (c.find_copies.ensures.does c.args.response)) c.args.response.tag now) c.submit_first.ensures.leads

pub returns-in-Ok-Said-clause-had : goal.returns-in-Ok-Said-clause-had
returns-in-Ok-Said-clause-had g c =
    let now = c.args.self.now in
    had_played g.S.Store.step c.args.response.tag now now now (on_command c.args.response.tag now (commands.Copy c.args.copy.now)) _ _ _ _ _
    (plays_said g.S.Store.step (response_text c.in-Ok-Said.text) now (on_command c.args.response.tag now (commands.Copy c.args.copy.now)) _ _ c.args.response c.args.response _ ((rw (c.in-Ok-Said.is, c.in-Ok-Said.field-0-is) at (c.find_copies.ensures.does c.args.response)) c.args.response.tag now) c.end.ensures.text) refl

pub returns-in-Err-clause-had : goal.returns-in-Err-clause-had
returns-in-Err-clause-had g c =
    let now = c.args.self.now in
    had_played g.S.Store.step c.args.response.tag now now _ (on_command c.args.response.tag now (commands.Copy c.args.copy.now)) _ _ _ _ _
    (plays_stopped g.S.Store.step now (on_command c.args.response.tag now (commands.Copy c.args.copy.now)) c.in-Err.fault _ _ c.args.response c.args.response _ _ ((rw c.in-Err.is at (c.find_copies.ensures.does c.args.response)) c.args.response.tag now) c.stop_copy.ensures.text c.stop_copy.ensures.after)
    c.stop_copy.ensures.standing
