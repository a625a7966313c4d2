use Rattle.std.proofs.Common.{inl, inr, refl}
use Rattle.house.specs.Steps.{caller_unprinted, caller_works}
use Rattle.house.proofs.Settlement.{on_err}
use Rattle.house.proofs.house.caller_goes_on.Goals as goal

pub returns-in_err-what-clause-works : goal.returns-in_err-what-clause-works
returns-in_err-what-clause-works c = on_err c.from_residual.result _ (elim c.in_err-what.ensures.works [ inl w ↦ caller_works _ c.in-Some.is w | inr l ↦ caller_unprinted _ refl l ])
