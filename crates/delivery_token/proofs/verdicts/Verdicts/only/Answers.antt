use Rattle.std.proofs.Common.{◌≡◌, ◌∙◌, ap, arith, length, map, slice_index_or, List, [], ◌∷◌, Option, Some, None}
use Rattle.delivery_token.specs.declared.Verdict.{Verdict}
use Rattle.delivery_token.specs.Verdicts.{AreKnown, Verdicts}
use Rattle.delivery_token.proofs.verdicts.Verdicts.only.Goals as goal

-- the only verdict isn't there
none_alone : (slots : List (Option Verdict)) (vs : List Verdict) (one : Option Verdict) → one ≡ slice_index_or slots 0 one → one ≡ None → AreKnown 1 slots vs → ⊥
none_alone [] vs one at none known = let n = known.all in omega (arith, n)
none_alone (o ∷ os) [] one at none known = let e = known.each in cc
none_alone (o ∷ os) (v ∷ vs) one at none known =
    let a : one ≡ o = at in let e : o ∷ os ≡ Some v ∷ map (λ v. Some v) vs = known.each in let b : o ≡ Some v = cc in let n : one ≡ None = none in cc

pub returns-clause-unknown : goal.returns-clause-unknown
returns-clause-unknown c e vs known =
    none_alone c.self.inside.slots.items vs c.index.result.now c.index.ensures e (record { all = ap (λ (os : List (Option Verdict)). length os) slots ∙ known.all; each = slots ∙ known.each })
  where
    slots : c.self.inside.slots.items ≡ c.args.self.now.slots
    slots = ap (λ (v : Verdicts). v.slots) c.self.view_is
