use Rattle.std.proofs.Common.{◌≡◌, ℕ, Bool, Some, refl, ap, subst, sym, ◌∙◌, length, arith}
use Rattle.std.specs.Prelude.{None, option_map, if◌then◌else◌}
use Rattle.change_ring.specs.declared.change.Flags.{Flags}
use Rattle.change_ring.specs.Log.{flags_after, seen_logged}
use Rattle.delivery_token.specs.Text.{Text}
use Rattle.mailbox.specs.Events.{Moves, mark, was_logged}
use Rattle.mailbox.specs.declared.clients.Row.{Row}
use Rattle.mailbox.specs.inner.Letters.{message_of}
use Rattle.mailbox.specs.Mailbox.{Message, message_with, rows}
use Rattle.mailbox.proofs.MessageLaws.{seen_none, seen_after_none, with_seen}
use Rattle.mailbox.proofs.StandsLaws.{Logs-nothing}
use Rattle.mailbox.proofs.mailbox.Mailbox.read.Goals as goal
use Rattle.mailbox.proofs.mailbox.Mailbox.read.Goals.{then-mark_seen, else-mark_seen}

-- a row
abbrev told : ℕ → Flags → Bool → Text → Row
told uid flags seen text = record { uid = uid; flags = flags; newly_seen = seen; text = text }

none : (c : goal.In_default) → message_with c.args.uid c.args.self.now.messages ≡ None
none c = sym c.in_default.ensures

pub returns-in_default-clause-spent : goal.returns-in_default-clause-spent
returns-in_default-clause-spent c =
    let none = ap length (seen_none c.args.mark_seen c.args.uid c.args.self.now.messages (none c)) in
    (λ e. cc, λ both. absurd (omega (arith, both.1, none, c.admit.ensures.small)))

pub returns-in_default-clause-logged : goal.returns-in_default-clause-logged
returns-in_default-clause-logged c =
    let now = c.args.self.now in
    Logs-nothing now (seen_logged c.args.mark_seen (rows now) c.args.uid) (seen_none c.args.mark_seen c.args.uid now.messages (none c))

pub returns-in_default-clause-window : goal.returns-in_default-clause-window
returns-in_default-clause-window c =
    let now = c.args.self.now in
    subst (Moves now.cursors now.window now.window) (sym (seen_none c.args.mark_seen c.args.uid now.messages (none c))) refl

pub returns-in_default-clause-messages : goal.returns-in_default-clause-messages
returns-in_default-clause-messages c = sym (seen_after_none c.args.mark_seen c.args.uid c.args.self.now.messages (none c))

pub returns-in_default-clause-row : goal.returns-in_default-clause-row
returns-in_default-clause-row c = sym (ap (option_map _) (none c))

pub returns-clause-row : goal.returns-clause-row
returns-clause-row c =
    let x : Message = message_of c.args.uid c.in-Some.old c.in-Some.shared.now in
    let ms = c.args.self.now.messages in
    let seen = was_logged (seen_logged c.args.mark_seen (rows c.args.self.now) c.args.uid) in
    let shown : Message → Row = λ (m : Message). record { uid = m.uid; flags = m.flags; newly_seen = seen; text = m.text } in
    let after : message_with c.args.uid c.mark.new.self.messages ≡ Some (record x { flags = if c.args.mark_seen then flags_after mark x.flags else x.flags }) =
    ap (message_with c.args.uid) c.in_ok-newly_seen.ensures.messages ∙ with_seen c.args.mark_seen c.args.uid ms x (sym c.in-Some.ensures) in
    let flags : c.if-mark_seen.flags ≡ (if c.args.mark_seen then flags_after mark x.flags else x.flags) =
    elim c.if-mark_seen.branch [
      | then-mark_seen w ↦ w.flags-is ∙ w.after-flags.ensures ∙ sym (ap (λ (b : Bool). if b then flags_after mark x.flags else x.flags) w.if-mark_seen.true)
      | else-mark_seen w ↦ w.flags-is ∙ sym (ap (λ (b : Bool). if b then flags_after mark x.flags else x.flags) w.if-mark_seen.false)
    ] in
    ap (λ (g : Flags). Some (told c.args.uid g c.in_ok-newly_seen.newly_seen c.in-Ok.text)) flags
    ∙ ap (λ (b : Bool). Some (told c.args.uid (if c.args.mark_seen then flags_after mark x.flags else x.flags) b c.in-Ok.text)) (sym c.in_ok-newly_seen.ensures.changed)
    ∙ ap (λ (t : Text). Some (told c.args.uid (if c.args.mark_seen then flags_after mark x.flags else x.flags) seen t)) c.in-Ok.ensures
    ∙ sym (ap (option_map shown) after)
