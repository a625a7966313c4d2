use Rattle.std.proofs.Common.{◌≡◌, ◌+◌, ℕ, List, [], ◌++◌, length, map, refl, ap, sym, subst, ◌∙◌, arith}
use Rattle.change_ring.specs.declared.change.Change.{Change}
use Rattle.change_ring.specs.Log.{removals, total}
use Rattle.cursor_set.proofs.Positions.{Rises-from}
use Rattle.mailbox.specs.inner.Choices.{passes}
use Rattle.mailbox.specs.Events.{Moves}
use Rattle.mailbox.specs.inner.Events.{GoesOn}
use Rattle.mailbox.specs.Mailbox.{Mailbox, remaining, row_of, rows, uids_of, Stands}
use Rattle.mailbox.specs.inner.Marks.{gone_of}
use Rattle.mailbox.specs.inner.Seen.{mail_of}
use Rattle.mailbox.proofs.MarkLaws.{length_remaining}
use Rattle.mailbox.proofs.RemovalLaws.{gone_adds, removals_fit, rows_removed}
use Rattle.mailbox.proofs.StandsLaws.{Stands-changed, Stands-rising}
use Rattle.mailbox.proofs.TakenLaws.{gone_marked}
use Rattle.mailbox.proofs.mailbox.Mailbox.remove.Goals as goal

pub log_removals-requires-clause-room : goal.log_removals-requires-clause-room
log_removals-requires-clause-room c =
    let test = passes c.args.choice in
    let all = ap (λ (us : List ℕ). length (gone_of test us)) c.marked.ensures in
    let same = ap length (gone_marked test c.self.inside.messages) in
    let now = ap (λ (m : Mailbox). total m.window + length (removals test (rows m))) c.self.view_is in
    omega (arith, c.requires.room, all, same, now)

-- what is logged
abbrev logged : goal.After-remove → List Change
logged c = removals (passes c.args.choice) (map row_of c.self.inside.messages)

same : (c : goal.After-remove) → gone_of (passes c.args.choice) c.marked.result.now ≡ logged c
same c = ap (gone_of (passes c.args.choice)) c.marked.ensures ∙ sym (gone_marked (passes c.args.choice) c.self.inside.messages)

goes_on : (c : goal.After-remove) → GoesOn c.self.inside.ring c.log_removals.new.ring (logged c)
goes_on c = subst (GoesOn c.self.inside.ring c.log_removals.new.ring) (same c) c.log_removals.ensures.goes_on

moves : (c : goal.After-remove) → Moves c.self.inside.cursors c.self.inside.ring c.log_removals.new.ring (logged c)
moves c = subst (Moves c.self.inside.cursors c.self.inside.ring c.log_removals.new.ring) (same c) c.log_removals.ensures.moves

-- the mailbox as it is left
abbrev after : goal.After-remove → Mailbox
after c = record (mail_of c.self.inside) { messages = c.remove.new.self; window = c.log_removals.new.ring }

removed : (c : goal.After-remove) (log : List Change) → Stands (mail_of c.self.inside) log → Stands (after c) (log ++ logged c)
removed c log s =
    let b = c.self.inside in
    let test = passes c.args.choice in
    let up = Rises-from (uids_of b.messages) (Stands-rising (mail_of b) log s) in
    Stands-changed (mail_of b) (after c) log (logged c) s (removals_fit test [] b.messages up)
    (ap (map row_of) c.remove.ensures ∙ sym (rows_removed test [] b.messages up)) (goes_on c)
    (gone_adds test b.messages) refl refl refl

pub invariant_of-self : goal.invariant_of-self
invariant_of-self c =
    let inv = c.self.invariant in
    let fewer = length_remaining (passes c.args.choice) c.self.inside.messages in
    (inv.0, omega (arith, inv.1, fewer, ap length c.remove.ensures), (inv.2.0 ++ logged c, removed c inv.2.0 inv.2.1), inv.3)

pub returns-clause-logged : goal.returns-clause-logged
returns-clause-logged c =
    let new = after c in
    λ log s. subst (λ (m : Mailbox). Stands new (log ++ removals (passes c.args.choice) (rows m))) c.self.view_is (removed c log (subst (λ (m : Mailbox). Stands m log) (sym c.self.view_is) s))

pub returns-clause-window : goal.returns-clause-window
returns-clause-window c = subst (λ (m : Mailbox). Moves m.cursors m.window c.log_removals.new.ring (removals (passes c.args.choice) (rows m))) c.self.view_is (moves c)

pub returns-clause-messages : goal.returns-clause-messages
returns-clause-messages c = c.remove.ensures ∙ ap (λ (m : Mailbox). remaining (passes c.args.choice) m.messages) c.self.view_is
