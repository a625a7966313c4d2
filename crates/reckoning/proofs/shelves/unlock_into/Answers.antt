use Rattle.std.proofs.Common.{rules, All, subst, sym, ◌∷◌, []}
use Rattle.std.proofs.lemmas.List.Elements.{All-append, All-cons, All-nil, All-weaker}
use Rattle.lane_work.proofs.BackingLaws.{goes_farther}
use Rattle.reckoning.specs.Shelves.{IsTaught}
use Rattle.reckoning.proofs.Histories.{taught_later}
use Rattle.reckoning.proofs.shelves.unlock_into.Goals as goal

pub loop-behind-preserved : goal.loop-behind-preserved
loop-behind-preserved g c =
    let v = c.loop-behind.invariant in
    let before = c.loop-behind.front in
    let now = c.unlock.new.front in
    let all = c.loop-behind.unlocked.items in (
      search rules,
      search rules,
      goes_farther c.args.front.now before now v.2 c.unlock.ensures.before,
      c.unlock.ensures.legal,
      subst (All (IsTaught now)) (sym c.push_reserved.ensures.items)
          (All-append (IsTaught now) all (c.unlock.result ∷ []) (All-weaker (IsTaught before) (IsTaught now) (taught_later before now c.unlock.ensures.before) all v.4)
          (All-cons (IsTaught now) c.unlock.result [] c.unlock.ensures.taught (All-nil (IsTaught now)))),
    )
