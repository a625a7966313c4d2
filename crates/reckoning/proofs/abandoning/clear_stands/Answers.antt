use Rattle.std.proofs.Common.{◌≡◌, ◌∙◌, ◌-◌, ℕ, [], ◌∷◌, ◌++◌, All, ap, arith, subst, sum_by, sym, vec_len}
use Rattle.std.proofs.lemmas.List.Sums.{sum_by-append}
use Rattle.house_shared.specs.declared.shared.Stand.{Stand}
use Rattle.reckoning.proofs.Spent.{all_taken}
use Rattle.reckoning.proofs.abandoning.clear_stands.Goals as goal

pub loop-stand-preserved : goal.loop-stand-preserved
loop-stand-preserved g c =
    let v = c.loop-stand.invariant in
    let permits = c.clear_stand.ensures.permits in
    let senders = c.clear_stand.ensures.senders in
    let rest = c.in-Some.ensures.cases in
    let sizes : Stand g.row.B.Denot → ℕ = λ x. vec_len x.stall.senders in
    let items : c.loop-stand.stands.items ≡ c.pop.new.self.items ++ c.in-Some.stand ∷ [] = c.in-Some.ensures.items in
    let sum = ap (sum_by sizes) items ∙ sum_by-append sizes c.pop.new.self.items (c.in-Some.stand ∷ []) in (
      omega (arith, v.0, permits.0, rest),
      permits.1 ∙ v.1,
      omega (arith, v.2, senders.0, sum),
      senders.1 ∙ v.3,
      subst (All (λ s. s.room.items ≡ [])) (sym c.in-Some.ensures.rest) (all_taken (λ s. s.room.items ≡ []) (vec_len c.loop-stand.stands - 1) c.loop-stand.stands.items v.4),
    )
