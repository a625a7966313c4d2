use Rattle.std.proofs.Common.{◌≡◌, ◌+◌, ◌-◌, ◌<◌, ◌≤◌, ◌^◌, ℕ, Bool, true, false, List, ◌++◌, length, take, ap, sym, subst, refl, ◌∙◌, inl, inr, arith, length-drop}
use Rattle.std.specs.Prelude.{◌↔◌, IsTrue, option_map, IfSome}
use Rattle.std.proofs.lemmas.Bool.{cases_lt}
use Rattle.std.proofs.lemmas.List.{take_all}
use Rattle.change_ring.specs.declared.change.Change.{Change}
use Rattle.change_ring.specs.Log.{removals, changes_from, total}
use Rattle.cursor_set.specs.Lines.{lines}
use Rattle.cursor_set.specs.Cursors.{CursorSet, Open, Updates, after_showing, held}
use Rattle.mailbox.specs.inner.Choices.{passes}
use Rattle.mailbox.specs.Mailbox.{Mailbox, rows, Stands}
use Rattle.mailbox.proofs.mailbox.Mailbox.expunge.Goals as goal

-- the log has no room for n changes more
no_room : (r : Bool) (most t n : ℕ) → IsTrue r ↔ (t + n ≤ most) → r ≡ false → most < t + n
no_room r most t n tells e = elim (cases_lt most (t + n)) [
  | inl more ↦ more
  | inr fits ↦ absurd (no_true r (tells.1 fits) e)
]
  where
    no_true : (b : Bool) → IsTrue b → b ≡ false → ⊥
    no_true true h f = cc
    no_true false h f = cc

-- it has
has_room : (r : Bool) (most t n : ℕ) → IsTrue r ↔ (t + n ≤ most) → r ≡ true → t + n ≤ most
has_room true most t n tells e = tells.0 refl
has_room false most t n tells e = cc

pub returns-clause-count : goal.returns-clause-count
returns-clause-count c = c.count_removals-count.ensures ∙ ap (λ (f : ℕ → Bool). length (removals f (rows c.args.self.now))) c.of-choice.ensures.test

pub returns-then-not-has_room-clause-spent : goal.returns-then-not-has_room-clause-spent
returns-then-not-has_room-clause-spent c =
    let count = c.count_removals-count.ensures ∙ ap (λ (f : ℕ → Bool). length (removals f (rows c.args.self.now))) c.of-choice.ensures.test in
    let more = no_room c.has_room.result (2 ^ 62) (total c.args.self.now.window) c.count_removals-count.result c.has_room.ensures c.if-not-has_room.true in
    (λ e. (c.in_ok-admit.ensures.admitted, omega (arith, more, count)), λ h. refl)

pub returns-in_default-clause-spent : goal.returns-in_default-clause-spent
returns-in_default-clause-spent c =
    let count = c.count_removals-count.ensures ∙ ap (λ (f : ℕ → Bool). length (removals f (rows c.args.self.now))) c.of-choice.ensures.test in
    let fits = has_room c.has_room.result (2 ^ 62) (total c.args.self.now.window) c.count_removals-count.result c.has_room.ensures c.if-not-has_room.false in
    (λ e. cc, λ h. absurd (omega (arith, fits, count, h.1)))

pub returns-clause-spent : goal.returns-clause-spent
returns-clause-spent c =
    let count = c.count_removals-count.ensures ∙ ap (λ (f : ℕ → Bool). length (removals f (rows c.args.self.now))) c.of-choice.ensures.test in
    let fits = has_room c.has_room.result (2 ^ 62) (total c.args.self.now.window) c.count_removals-count.result c.has_room.ensures c.if-not-has_room.false in
    (λ e. cc, λ h. absurd (omega (arith, fits, count, h.1)))

pub remove-requires-clause-room : goal.remove-requires-clause-room
remove-requires-clause-room c =
    let fits = has_room c.has_room.result (2 ^ 62) (total c.args.self.now.window) c.count_removals-count.result c.has_room.ensures c.if-not-has_room.false in
    let same = ap (λ (m : Mailbox). total m.window + length (removals (passes c.of-choice.result) (rows m))) c.in-Ok.ensures.rest in
    omega (arith, fits, c.count_removals-count.ensures, same)

pub returns-clause-logged : goal.returns-clause-logged
returns-clause-logged c = λ log s.
    subst (λ (f : ℕ → Bool). Stands c.remove.new.self (log ++ removals f (rows c.args.self.now))) c.of-choice.ensures.test
    (subst (λ (m : Mailbox). Stands c.remove.new.self (log ++ removals (passes c.of-choice.result) (rows m))) c.in-Ok.ensures.rest (c.remove.ensures.logged log (c.in-Ok.ensures.logged log s)))

pub returns-clause-moved : goal.returns-clause-moved
returns-clause-moved c =
    let now = c.args.self.now in
    let at = c.args.handle.now.at in
    let all : take c.in-Ok._shown (changes_from at now.window) ≡ changes_from at now.window =
    take_all c.in-Ok._shown (changes_from at now.window) (omega (arith, c.in-Ok.ensures.count, c.admit.ensures.small, c.in_ok-admit.ensures.admitted.1, length-drop (at - now.window.base) now.window.changes)) in
    subst (λ (cs : List Change). Updates now.cursors c.remove.new.self.cursors c.args.handle.now.slot (option_map (after_showing cs) (held now.cursors c.args.handle.now))) all
    (subst (λ (k : CursorSet). Updates now.cursors k c.args.handle.now.slot (option_map (after_showing (take c.in-Ok._shown (changes_from at now.window))) (held now.cursors c.args.handle.now)))
    (sym (ap (λ (m : Mailbox). m.cursors) c.remove.ensures.rest)) c.in-Ok.ensures.moved)

pub returns-clause-written : goal.returns-clause-written
returns-clause-written c =
    let now = c.args.self.now in
    let at = c.args.handle.now.at in
    let all : take c.in-Ok._shown (changes_from at now.window) ≡ changes_from at now.window =
    take_all c.in-Ok._shown (changes_from at now.window) (omega (arith, c.in-Ok.ensures.count, c.admit.ensures.small, c.in_ok-admit.ensures.admitted.1, length-drop (at - now.window.base) now.window.changes)) in
    subst (λ (cs : List Change). IfSome (held now.cursors c.args.handle.now) (λ (o : Open). c.feed.new.out.items ≡ c.args.out.now.items ++ lines o.view cs)) all c.in-Ok.ensures.written
