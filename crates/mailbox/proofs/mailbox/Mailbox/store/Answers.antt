use Rattle.std.proofs.Common.{◌≡◌, refl, ap, subst, sym, ◌∙◌, length, arith, List}
use Rattle.std.specs.Prelude.{None, Some, option_map}
use Rattle.mailbox.specs.Events.{Moves}
use Rattle.mailbox.specs.Mailbox.{Message, message_with, rows}
use Rattle.mailbox.proofs.MessageLaws.{flags_stored, flagged_none, logged_none, none_found}
use Rattle.mailbox.proofs.StandsLaws.{Logs-nothing}
use Rattle.change_ring.specs.Log.{flags_logged}
use Rattle.mailbox.proofs.mailbox.Mailbox.store.Goals as goal

none : (c : goal.In_default) → message_with c.args.uid c.args.self.now.messages ≡ None
none c = none_found (message_with c.args.uid c.args.self.now.messages) c.in_default.ensures

pub returns-in_default-clause-spent : goal.returns-in_default-clause-spent
returns-in_default-clause-spent c =
    let none = ap length (logged_none c.args.op c.args.uid c.args.self.now.messages (none c)) in
    (λ e. cc, λ both. absurd (omega (arith, both.1, none, c.admit.ensures.small)))

pub returns-in_default-clause-logged : goal.returns-in_default-clause-logged
returns-in_default-clause-logged c =
    let now = c.args.self.now in
    Logs-nothing now (flags_logged (rows now) c.args.uid c.args.op) (logged_none c.args.op c.args.uid now.messages (none c))

pub returns-in_default-clause-window : goal.returns-in_default-clause-window
returns-in_default-clause-window c =
    let now = c.args.self.now in
    subst (Moves now.cursors now.window now.window) (sym (logged_none c.args.op c.args.uid now.messages (none c))) refl

pub returns-in_default-clause-messages : goal.returns-in_default-clause-messages
returns-in_default-clause-messages c = sym (flagged_none c.args.op c.args.uid c.args.self.now.messages (none c))

pub returns-in_default-clause-flags : goal.returns-in_default-clause-flags
returns-in_default-clause-flags c = sym (ap (option_map (λ (m : Message). m.flags)) (none c))

pub returns-clause-flags : goal.returns-clause-flags
returns-clause-flags c =
    let old = flags_stored c.args.uid c.args.op c.args.self.now.messages c.in-Some.old (sym c.in-Some.ensures) in
    ap Some c.after.ensures ∙ sym (ap (λ (ms : List Message). option_map (λ (m : Message). m.flags) (message_with c.args.uid ms)) c.in_ok-_changed.ensures.messages ∙ old)
