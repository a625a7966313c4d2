use Rattle.std.proofs.Common.{◌≡◌, ◌+◌, ◌-◌, ◌≤◌, ◌++◌, ℕ, List, Some, Option, length, ap, subst, sym, ◌∙◌, arith}
use Rattle.std.specs.Prelude.{option_map, min}
use Rattle.change_ring.specs.declared.change.Change.{Change}
use Rattle.change_ring.specs.Log.{changes_from, total}
use Rattle.cursor_set.specs.Legal.{IsLegalOn}
use Rattle.cursor_set.specs.Opened.{open_of}
use Rattle.cursor_set.specs.Cursors.{CursorSet, Open, CursorHandle, Updates, after_showing, held, in_slot, next_changes}
use Rattle.cursor_set.proofs.LegalLaws.{legal_take}
use Rattle.cursor_set.proofs.OpenedLemmas.{Updates-shown, set_of, held_in_slot, held_is}
use Rattle.cursor_set.proofs.set.CursorSet.feed.Goals as goal

pub lend_next-requires-clause-logged : goal.lend_next-requires-clause-logged
lend_next-requires-clause-logged c =
    let at = ap (λ (s : CursorHandle). s.at) c.handle.view_is in
    let kept : c.args.ring.now.base ≤ c.args.handle.now.at = omega (arith, c.if-handle-base.false, c.base.ensures, at) in
    let known = (c.requires.known (open_of c.in-Some._cursor.now) (sym c.in-Some.ensures) kept).0 in
    omega (arith, known, at)

pub show_in-requires-clause-legal : goal.show_in-requires-clause-legal
show_in-requires-clause-legal c = λ k there.
    let at = ap (λ (s : CursorHandle). s.at) c.handle.view_is in
    let kept : c.args.ring.now.base ≤ c.args.handle.now.at = omega (arith, c.if-handle-base.false, c.base.ensures, at) in
    let o = open_of c.in-Some._cursor.now in
    let legal : IsLegalOn o.view (changes_from c.args.handle.now.at c.args.ring.now) = (c.requires.known o (sym c.in-Some.ensures) kept).1 in
    let s = c.self.inside in
    let handle : CursorHandle = record { number = c.handle.inside.number; slot = c.handle.inside.slot; serial = c.handle.inside.serial; at = c.handle.inside.at } in
    let holds : held (set_of s.number s.next s.slots) handle ≡ Some o =
    subst (λ (x : CursorHandle). held (set_of s.number s.next s.slots) x ≡ Some o) (sym c.handle.view_is) (subst (λ (x : CursorSet). held x c.args.handle.now ≡ Some o) (sym c.self.view_is) (sym c.in-Some.ensures)) in
    let same : o ≡ open_of k = held_is s.number s.next s.slots handle o k holds there in
    let here : IsLegalOn o.view (changes_from c.handle.inside.at c.args.ring.now) = subst (λ (n : ℕ). IsLegalOn o.view (changes_from n c.args.ring.now)) (sym at) legal in
    subst (λ (p : Open). IsLegalOn p.view (c.lend_next.result.0.now ++ c.lend_next.result.1.now)) same
    (subst (IsLegalOn o.view) (sym c.lend_next.ensures.changes) (legal_take o.view (min c.args.limit (total c.args.ring.now - c.handle.inside.at)) (changes_from c.handle.inside.at c.args.ring.now) here))

pub returns-clause-moved : goal.returns-clause-moved
returns-clause-moved c =
    let s = c.self.inside in
    let old = set_of s.number s.next s.slots in
    let new = set_of s.number s.next c.show_in.new.slots in
    let o = open_of c.in-Some._cursor.now in
    let w = c.args.ring.now in
    let n = length c.lend_next.result.0.now + length c.lend_next.result.1.now in
    let is : Some o ≡ held c.args.self.now c.args.handle.now = c.in-Some.ensures in
    let here : in_slot old c.handle.inside.slot ≡ Some o =
    ap (λ (t : CursorSet). in_slot t c.handle.inside.slot) c.self.view_is ∙ ap (λ (handle : CursorHandle). in_slot c.args.self.now handle.slot) c.handle.view_is ∙ held_in_slot c.args.self.now c.args.handle.now o (sym is) in
    let changes : c.lend_next.result.0.now ++ c.lend_next.result.1.now ≡ next_changes w c.args.handle.now.at n =
    c.lend_next.ensures.changes ∙ ap (λ (k : ℕ). next_changes w c.handle.inside.at k) (sym c.lend_next.ensures.count) ∙ ap (λ (handle : CursorHandle). next_changes w handle.at n) c.handle.view_is in
    let u = Updates-shown s.number s.next s.slots c.show_in.new.slots c.handle.inside.slot (c.lend_next.result.0.now ++ c.lend_next.result.1.now) o here c.in-Ok.ensures.cursor c.show_in.ensures.others in
    let v = subst (λ (cs : List Change). Updates old new c.handle.inside.slot (Some (after_showing cs o))) changes u in
    subst (λ (h : Option Open). Updates c.args.self.now new c.args.handle.now.slot (option_map (after_showing (next_changes w c.args.handle.now.at n)) h)) is
    (subst (λ (handle : CursorHandle). Updates c.args.self.now new handle.slot (Some (after_showing (next_changes w c.args.handle.now.at n) o))) c.handle.view_is
    (subst (λ (t : CursorSet). Updates t new c.handle.inside.slot (Some (after_showing (next_changes w c.args.handle.now.at n) o))) c.self.view_is v))
