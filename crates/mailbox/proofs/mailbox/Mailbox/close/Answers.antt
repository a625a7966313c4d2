use Rattle.std.proofs.Common.{◌≡◌, ◌∙◌, List, ap, sym, subst}
use Rattle.std.specs.Prelude.{Result, Ok, Err, None, IfErr, OnOk}
use Rattle.change_ring.specs.declared.change.Change.{Change}
use Rattle.cursor_set.specs.Cursors.{CursorSet, CursorHandle, Updates, held}
use Rattle.mailbox.specs.Mailbox.{Mailbox, Stands}
use Rattle.mailbox.specs.inner.Seen.{mail_of}
use Rattle.mailbox.proofs.StandsLaws.{Stands-close}
use Rattle.mailbox.proofs.mailbox.Mailbox.close.Goals as goal

-- closed or not, it stands for the same logs
closed : (m : Mailbox) (new : CursorSet) (handle : CursorHandle) (r : Result (Unit {0}) CursorHandle) → OnOk r (Updates m.cursors new handle.slot None) → IfErr r (λ back. (back ≡ handle) × (held m.cursors handle ≡ None) × (new ≡ m.cursors)) →
    (log : List Change) → Stands m log → Stands (record m { cursors = new }) log
closed m new handle (Ok u) ok err log s = Stands-close m new log handle.slot s ok
closed m new handle (Err back) ok err log s = subst (λ (k : CursorSet). Stands (record m { cursors = k }) log) (sym err.2) s

number_kept : (old new : CursorSet) (handle : CursorHandle) (r : Result (Unit {0}) CursorHandle) → OnOk r (Updates old new handle.slot None) → IfErr r (λ back. (back ≡ handle) × (held old handle ≡ None) × (new ≡ old)) → new.number ≡ old.number
number_kept old new handle (Ok u) ok err = ok.number
number_kept old new handle (Err back) ok err = ap (λ (k : CursorSet). k.number) err.2

pub invariant_of-self : goal.invariant_of-self
invariant_of-self c =
    let b = c.self.inside in
    let inv = c.self.invariant in (
      inv.0,
      inv.1,
      (inv.2.0, closed (mail_of b) c.close.new.self c.args.handle c.close.result c.close.ensures.ok c.close.ensures.stranger inv.2.0 inv.2.1),
      number_kept b.cursors c.close.new.self c.args.handle c.close.result c.close.ensures.ok c.close.ensures.stranger ∙ inv.3,
    )

pub returns-clause-logged : goal.returns-clause-logged
returns-clause-logged c = λ log s.
    closed (mail_of c.self.inside) c.close.new.self c.args.handle c.close.result c.close.ensures.ok c.close.ensures.stranger log (subst (λ (m : Mailbox). Stands m log) (sym c.self.view_is) s)
