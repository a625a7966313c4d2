use Rattle.std.proofs.Common.{◌≡◌, ◌∙◌, ap, Bool, false, IsSome, Option, refl, subst, true}
use Rattle.std.specs.Prelude.{not}
use Rattle.imap_session.specs.declared.standing.Selected.{Selected}
use Rattle.house.proofs.IdleTurn.{none_new}
use Rattle.house.proofs.idling.has_turn.Goals as goal

not_false : (b : Bool) → not b ≡ false → b ≡ true
not_false true e = refl
not_false false e = cc

pub returns-clause-none : goal.returns-clause-none
returns-clause-none c e k next heard w v b o printed stands there i =
    none_new c.args.visitor.now c.args.place c.args.core.now (subst (λ (x : Option Selected). IsSome x) c.selected.ensures (c.is_none.ensures ∙ ap not c.if-is_none.false))
    (c.is_up_to_date.ensures.log (not_false c.is_up_to_date.result e)) k next heard w v b o printed stands there i
