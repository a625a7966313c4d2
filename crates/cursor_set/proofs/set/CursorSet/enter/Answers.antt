use Rattle.std.proofs.Common.{ℕ, ◌+◌, List, Some, subst}
use Rattle.cursor_set.specs.Cursors.{CursorSet, Updates}
use Rattle.cursor_set.proofs.OpenedLemmas.{Updates-set_of, set_of}
use Rattle.cursor_set.proofs.set.CursorSet.enter.Goals as goal

pub returns-clause-opened : goal.returns-clause-opened
returns-clause-opened c =
    let s = c.self.inside in
    let u = Updates-set_of s.number s.next (s.next + 1) s.slots c.insert.new.self c.in_ok-slot.slot _ c.in_ok-slot.ensures.updates in
    let new = set_of s.number (s.next + 1) c.insert.new.self in
    let at_view : (xs : List ℕ) → CursorSet → Type 0 = λ xs. λ old. Updates old new c.in_ok-slot.slot (Some (record { serial = old.next; at = c.args.at; view = xs })) in
    subst (λ (old : CursorSet). at_view c.args.uids.now old) c.self.view_is (subst (λ (xs : List ℕ). at_view xs (set_of s.number s.next s.slots)) c.in_ok-view.ensures.items u)
