use Rattle.std.proofs.Common.{rules, ◌≡◌, ◌≢◌, ◌^◌, ℕ, List, [], ◌∷◌, ◌++◌, Bool, true, false, length, map, Some, ap, subst, sym, ◌∙◌, refl, arith}
use Rattle.std.specs.Prelude.{option_map}
use Rattle.std.specs.List.Sorted.{IsStrictlyIncreasing}
use Rattle.change_ring.specs.declared.change.Change.{Change}
use Rattle.change_ring.specs.declared.change.Change.TheVariants.{Flags as SetFlags}
use Rattle.change_ring.specs.declared.change.Flags.{Flags}
use Rattle.change_ring.specs.declared.flag_op.FlagOp.{FlagOp}
use Rattle.change_ring.specs.Log.{flags_after, flags_differ, flags_logged, total}
use Rattle.cursor_set.proofs.Positions.{Rises-from}
use Rattle.mailbox.specs.Events.{Moves, was_logged}
use Rattle.mailbox.specs.inner.Letters.{reflagged}
use Rattle.mailbox.specs.Mailbox.{Mailbox, Message, flagged, message_with, row_of, rows, uids_of, Stands}
use Rattle.mailbox.specs.inner.Seen.{mail_of}
use Rattle.mailbox.specs.inner.Stands.{IsSound}
use Rattle.mailbox.specs.declared.mailbox.Mailbox.TheInside.{Inside as kept_mail}
use Rattle.mailbox.proofs.MarkLaws.{length_reflagged}
use Rattle.mailbox.proofs.MessageLaws.{IsFound, found_by, stay_logged, stay_flagged, change_logged, change_fits, change_rows}
use Rattle.mailbox.proofs.StandsLaws.{Logs-nothing, Stands-changed, Stands-rising}
use Rattle.mailbox.proofs.mailbox.Mailbox.set_flags.Goals as goal

-- the message is found
found : (b : kept_mail) (now : Mailbox) (uid : ℕ) (op : FlagOp) (old : Flags) → mail_of b ≡ now → IsSound (mail_of b) →
    option_map (λ (m : Message). m.flags) (message_with uid now.messages) ≡ Some old → IsFound uid op now.messages old
found b now uid op old same sound there =
    let rising = subst (λ (m : Mailbox). IsStrictlyIncreasing (uids_of m.messages)) same (Stands-rising (mail_of b) sound.0 sound.1) in
    found_by uid op now.messages old (Rises-from (uids_of now.messages) rising) there

-- its flags stay
stays : (c : goal.Then-not-differ_from) → (flags_logged (rows c.args.self.now) c.args.uid c.args.op ≡ []) × (flagged c.args.uid c.args.op c.args.self.now.messages ≡ c.args.self.now.messages)
stays c =
    let f = found c.self.inside c.args.self.now c.args.uid c.args.op c.args.old c.self.view_is c.self.invariant.2 c.requires.there in
    let same : flags_differ c.args.old (flags_after c.args.op c.args.old) ≡ false = sym (ap (flags_differ c.args.old) c.after-flags.ensures) ∙ sym c.differ_from.ensures ∙ c.if-not-differ_from.true in (
      stay_logged c.args.uid c.args.op c.args.self.now.messages c.args.old f same,
      stay_flagged c.args.uid c.args.op c.args.self.now.messages c.args.old f same,
    )

pub returns-then-not-differ_from-clause-spent : goal.returns-then-not-differ_from-clause-spent
returns-then-not-differ_from-clause-spent c =
    let none = ap length (stays c).0 in
    (λ e. cc, λ many. absurd (omega (arith, many, none, c.requires.small)))

pub returns-then-not-differ_from-clause-logged : goal.returns-then-not-differ_from-clause-logged
returns-then-not-differ_from-clause-logged c = Logs-nothing c.args.self.now (flags_logged (rows c.args.self.now) c.args.uid c.args.op) (stays c).0

pub returns-then-not-differ_from-clause-window : goal.returns-then-not-differ_from-clause-window
returns-then-not-differ_from-clause-window c =
    subst (Moves c.args.self.now.cursors c.args.self.now.window c.args.self.now.window) (sym (stays c).0) refl

pub returns-then-not-differ_from-clause-messages : goal.returns-then-not-differ_from-clause-messages
returns-then-not-differ_from-clause-messages c = sym (stays c).1

pub returns-then-not-differ_from-clause-changed : goal.returns-then-not-differ_from-clause-changed
returns-then-not-differ_from-clause-changed c = ap was_logged (stays c).0

-- they become others
one_change : (uid : ℕ) (op : FlagOp) (now : Mailbox) (old new : Flags) (differs : Bool) → IsFound uid op now.messages old → new ≡ flags_after op old →
    differs ≡ flags_differ old new → differs ≡ true → flags_logged (rows now) uid op ≡ SetFlags uid new ∷ []
one_change uid op now old new differs f is tells other =
    change_logged uid op now.messages old f (ap (flags_differ old) (sym is) ∙ sym tells ∙ other) ∙ ap (λ (g : Flags). SetFlags uid g ∷ []) (sym is)

pub returns-in_err-log_change-clause-spent : goal.returns-in_err-log_change-clause-spent
returns-in_err-log_change-clause-spent c =
    let f = found c.self.inside c.args.self.now c.args.uid c.args.op c.args.old c.self.view_is c.self.invariant.2 c.requires.there in
    let one = ap length (one_change c.args.uid c.args.op c.args.self.now c.args.old c.after-flags.result c.differ_from.result f c.after-flags.ensures c.differ_from.ensures c.if-not-differ_from.false) in
    let full : total c.self.inside.ring ≡ 2 ^ 62 = c.in_err-log_change.ensures.spent.0 (search rules) in
    let same : total c.self.inside.ring ≡ total c.args.self.now.window = ap (λ (m : Mailbox). total m.window) c.self.view_is in
    (λ e. omega (arith, one, full, same), λ many. c.from_residual.ensures.0)

-- the mailbox as it is left
abbrev after : goal.After-set_flags → Mailbox
after c = record (mail_of c.self.inside) { messages = c.set_flags.new.self; window = c.log_change.new.ring }

known : (c : goal.After-set_flags) → IsFound c.args.uid c.args.op c.args.self.now.messages c.args.old
known c = found c.self.inside c.args.self.now c.args.uid c.args.op c.args.old c.self.view_is c.self.invariant.2 c.requires.there

changed : (c : goal.After-set_flags) (log : List Change) → Stands (mail_of c.self.inside) log → Stands (after c) (log ++ SetFlags c.args.uid c.after-flags.result ∷ [])
changed c log s =
    let b = c.self.inside in
    let new = c.after-flags.result in
    let f = subst (λ (m : Mailbox). IsFound c.args.uid c.args.op m.messages c.args.old) (sym c.self.view_is) (known c) in
    Stands-changed (mail_of b) (after c) log (SetFlags c.args.uid new ∷ []) s (change_fits c.args.uid c.args.op b.messages c.args.old new f)
    (ap (map row_of) c.set_flags.ensures ∙ change_rows c.args.uid b.messages new)
    c.in_ok-log_change.ensures.goes_on refl refl refl refl

logged : (c : goal.After-set_flags) → flags_logged (rows c.args.self.now) c.args.uid c.args.op ≡ SetFlags c.args.uid c.after-flags.result ∷ []
logged c = one_change c.args.uid c.args.op c.args.self.now c.args.old c.after-flags.result c.differ_from.result (known c) c.after-flags.ensures c.differ_from.ensures c.if-not-differ_from.false

pub invariant_of-self-2 : goal.invariant_of-self-2
invariant_of-self-2 c =
    let log = c.self.invariant.2.0 in
    let long = ap length c.set_flags.ensures ∙ length_reflagged c.args.uid c.after-flags.result c.self.inside.messages in (
      c.self.invariant.0,
      omega (arith, c.self.invariant.1, long),
      (log ++ SetFlags c.args.uid c.after-flags.result ∷ [], changed c log c.self.invariant.2.1),
      c.self.invariant.3,
    )

pub returns-clause-spent : goal.returns-clause-spent
returns-clause-spent c =
    let one = ap length (logged c) in
    let same : total c.self.inside.ring ≡ total c.args.self.now.window = ap (λ (m : Mailbox). total m.window) c.self.view_is in
    let room : total c.self.inside.ring ≢ 2 ^ 62 = λ full. search (rules, c.in_ok-log_change.ensures.spent.1 full) in
    (λ e. cc, λ many. absurd (room (omega (arith, many, one, same, c.requires.small))))

pub returns-clause-logged : goal.returns-clause-logged
returns-clause-logged c =
    let new = after c in
    λ log s. subst (λ (cs : List Change). Stands new (log ++ cs)) (sym (logged c)) (changed c log (subst (λ (m : Mailbox). Stands m log) (sym c.self.view_is) s))

pub returns-clause-window : goal.returns-clause-window
returns-clause-window c =
    subst (Moves c.args.self.now.cursors c.args.self.now.window c.log_change.new.ring) (sym (logged c))
    (subst (λ (m : Mailbox). Moves m.cursors m.window c.log_change.new.ring (SetFlags c.args.uid c.after-flags.result ∷ [])) c.self.view_is c.in_ok-log_change.ensures.moves)

pub returns-clause-messages : goal.returns-clause-messages
returns-clause-messages c =
    c.set_flags.ensures ∙ ap (λ (m : Mailbox). reflagged c.args.uid c.after-flags.result m.messages) c.self.view_is
    ∙ ap (λ (g : Flags). reflagged c.args.uid g c.args.self.now.messages) c.after-flags.ensures ∙ sym (known c).flagged

pub returns-clause-changed : goal.returns-clause-changed
returns-clause-changed c = ap was_logged (logged c)
