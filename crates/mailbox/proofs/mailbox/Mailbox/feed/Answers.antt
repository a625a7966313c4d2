use Rattle.std.proofs.Common.{rules, ◌≡◌, ◌≤◌, ◌-◌, ℕ, List, ◌++◌, Ok, Err, Some, IsSome, is_some, ap, subst, sym, ◌∙◌, inl, inr, arith, length, length-take, length-drop}
use Rattle.std.proofs.lemmas.Bool.{cases_lt}
use Rattle.change_ring.specs.Log.{view_at, total, changes_from}
use Rattle.cursor_set.specs.Lines.{lines}
use Rattle.cursor_set.specs.Cursors.{Open, Updates, after_showing, held, next_changes}
use Rattle.cursor_set.proofs.OpenedLemmas.{held_in_slot}
use Rattle.change_ring.specs.declared.change.Change.{Change}
use Rattle.mailbox.specs.Mailbox.{Mailbox, Stands, next_of}
use Rattle.mailbox.specs.inner.Seen.{mail_of}
use Rattle.mailbox.proofs.Handles.{held_at, held_some}
use Rattle.mailbox.proofs.StandsLaws.{Stands-feed, lines-log, pending-legal}
use Rattle.mailbox.proofs.mailbox.Mailbox.feed.Goals as goal

ok_err : {T E : Type 0} {n : T} {e : E} → Ok n ≡ Err e → ⊥
ok_err e = cc

pub feed-requires : goal.feed-requires
feed-requires c =
    let m = mail_of c.self.inside in
    let log = c.self.invariant.2.0 in
    let is = c.self.invariant.2.1 in
    record {
      known = λ o h low.
          let found = held_in_slot c.self.inside.cursors c.args.handle.now o h in
          let at = held_at c.self.inside.cursors c.args.handle.now o h in
          let within = (is.cursors c.args.handle.now.slot o found).within in
          let here : m.window.base ≤ o.at = omega (arith, at, low) in
          (omega (arith, within, is.window.long, at), rw (sym at) (pending-legal m log c.args.handle.now.slot o is found here));
    }

-- the cursor of the handle, of which the window has all that is next
cursor : (c : goal.In_ok-count) → (o : Open) × (held c.self.inside.cursors c.args.handle.now ≡ Some o) × (c.self.inside.ring.base ≤ o.at)
cursor c =
    let h = held_some (held c.self.inside.cursors c.args.handle.now) (λ none. ok_err (c.in_ok-count.ensures.stranger.1 none)) in
    let yes : IsSome (held c.self.inside.cursors c.args.handle.now) = ap is_some h.1 in
    let at = held_at c.self.inside.cursors c.args.handle.now h.0 h.1 in (
      h.0,
      h.1,
      elim (cases_lt c.args.handle.now.at c.self.inside.ring.base) [
        | inl low ↦ absurd (ok_err (c.in_ok-count.ensures.lapped.1 (yes, low)))
        | inr high ↦ omega (arith, high, at)
      ],
    )

-- it stands for the same logs
fed : (c : goal.In_ok-count) (log : List Change) → Stands (mail_of c.self.inside) log → Stands (record (mail_of c.self.inside) { cursors = c.feed.new.self }) log
fed c log s =
    let o = cursor c in
    let w = c.self.inside.ring in
    let at = held_at c.self.inside.cursors c.args.handle.now o.0 o.1 in
    let moved = rw o.1 at c.in_ok-count.ensures.moved in
    let changes = subst (λ (k : ℕ). Updates c.self.inside.cursors c.feed.new.self c.args.handle.now.slot (Some (after_showing (next_changes w k c.in_ok-count.count) o.0))) (sym at) moved in
    let found = held_in_slot c.self.inside.cursors c.args.handle.now o.0 o.1 in
    let within = (s.cursors c.args.handle.now.slot o.0 found).within in
    let few : c.in_ok-count.count ≤ total w - o.0.at = omega (arith, c.in_ok-count.ensures.count, at) in
    let long : length (next_changes w o.0.at c.in_ok-count.count) ≡ c.in_ok-count.count =
    omega (arith, length-take c.in_ok-count.count (changes_from o.0.at w), length-drop (o.0.at - w.base) w.changes, few, o.2) in
    Stands-feed (mail_of c.self.inside) c.feed.new.self log c.args.handle.now.slot c.in_ok-count.count o.0 s found o.2 few long changes

pub invariant_of-self-2 : goal.invariant_of-self-2
invariant_of-self-2 c =
    let log = c.self.invariant.2.0 in
    (c.self.invariant.0, c.self.invariant.1, (log, fed c log c.self.invariant.2.1), search rules)

pub returns-clause-logged : goal.returns-clause-logged
returns-clause-logged c = λ log s. fed c log (subst (λ (m : Mailbox). Stands m log) (sym c.self.view_is) s)

pub returns-clause-shown : goal.returns-clause-shown
returns-clause-shown c = λ log s.
    let o = cursor c in
    let at = held_at c.self.inside.cursors c.args.handle.now o.0 o.1 in
    let written = rw o.1 at c.in_ok-count.ensures.shown in
    written ∙ ap (λ (k : ℕ). c.args.out.now.items ++ lines o.0.view (next_changes c.self.inside.ring k c.in_ok-count.count)) (sym at)
    ∙ ap (λ (t : List ℕ). c.args.out.now.items ++ t)
    (lines-log (mail_of c.self.inside) log c.args.handle.now.slot c.in_ok-count.count o.0 (subst (λ (m : Mailbox). Stands m log) (sym c.self.view_is) s) (held_in_slot c.self.inside.cursors c.args.handle.now o.0 o.1) o.2
    ∙ ap (λ (k : ℕ). lines (view_at log k) (next_of log k c.in_ok-count.count)) at)
