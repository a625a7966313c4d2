use Rattle.std.proofs.Common.{rules, ◌≡◌, ℕ, List, Some, subst, sym, ◌∙◌}
use Rattle.change_ring.specs.Log.{total}
use Rattle.cursor_set.specs.Cursors.{Updates}
use Rattle.mailbox.specs.Mailbox.{Mailbox, uids_of, Stands}
use Rattle.mailbox.specs.inner.Seen.{mail_of}
use Rattle.mailbox.proofs.Handles.{known_by}
use Rattle.mailbox.proofs.StandsLaws.{Stands-enter}
use Rattle.mailbox.proofs.mailbox.Mailbox.open_cursor.Goals as goal

-- the cursor is at the end, and its client counts the messages that are there
entered : (c : goal.After-drop-uids-2) → Updates c.self.inside.cursors c.enter.new.self c.in_ok-handle.handle.slot
    (Some (record { serial = c.self.inside.cursors.next; at = total c.self.inside.ring; view = uids_of c.self.inside.messages }))
entered c =
    let b = c.self.inside in
    let new = c.enter.new.self in
    let slot = c.in_ok-handle.handle.slot in
    let view : c.deref.result.now ≡ uids_of b.messages = c.deref.ensures.value ∙ c.in_ok-uids.ensures in
    subst (λ (v : List ℕ). Updates b.cursors new slot (Some (record { serial = b.cursors.next; at = total b.ring; view = v }))) view
    (subst (λ (k : ℕ). Updates b.cursors new slot (Some (record { serial = b.cursors.next; at = k; view = c.deref.result.now }))) c.total-at.ensures.total c.in_ok-handle.ensures.opened)

pub invariant_of-self-2 : goal.invariant_of-self-2
invariant_of-self-2 c =
    let log = c.self.invariant.2.0 in (
      c.self.invariant.0,
      c.self.invariant.1,
      (log, Stands-enter (mail_of c.self.inside) c.enter.new.self log c.in_ok-handle.handle.slot c.self.inside.cursors.next c.self.invariant.2.1 (entered c)),
      search rules,
    )

pub returns-clause-logged : goal.returns-clause-logged
returns-clause-logged c = λ log s.
    Stands-enter (mail_of c.self.inside) c.enter.new.self log c.in_ok-handle.handle.slot c.self.inside.cursors.next (subst (λ (m : Mailbox). Stands m log) (sym c.self.view_is) s) (entered c)

pub returns-clause-opened : goal.returns-clause-opened
returns-clause-opened c =
    subst (λ (m : Mailbox). Updates m.cursors c.enter.new.self c.in_ok-handle.handle.slot (Some (record { serial = m.cursors.next; at = total m.window; view = uids_of m.messages }))) c.self.view_is (entered c)

pub returns-clause-known : goal.returns-clause-known
returns-clause-known c =
    let u = c.in_ok-handle.ensures.opened in
    let e = c.in_ok-handle.ensures.handle in
    known_by c.enter.new.self c.in_ok-handle.handle _ (u.number ∙ sym e.0) u.changed (sym e.1) (sym e.2)
