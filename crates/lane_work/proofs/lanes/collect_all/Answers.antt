use Rattle.std.proofs.Common.{rules, ◌≡◌, ◌≤◌, ◌<◌, ◌+◌, suc, All, Vec, Global, ◌∙◌, ap, sym, subst, length, map, vec_len, vec_capacity, arith}
use Rattle.std.proofs.lemmas.List.{length-map}
use Rattle.std.proofs.lemmas.List.Elements.{All-tail, All-weaker}
use Rattle.lane_work.specs.SharedLanes.{with_all}
use Rattle.lane_work.proofs.StepLaws.{list, no_items, removed}
use Rattle.lane_work.proofs.RowLaws.{each_length}
use Rattle.lane_work.proofs.lanes.collect_all.Goals as goal

pub loop-preserved : goal.loop-preserved
loop-preserved g c =
    let v = c.loop.invariant in
    let hands = c.loop.hands.items in
    let rest = c.remove.new.self.items in
    let h = c.remove.result in
    let olds = c.loop.lists.items in
    let news = c.collect.new.lists in
    let some : 0 < length hands = search rules in
    let e = removed hands rest h some c.remove.ensures.value c.remove.ensures.items in
    let fewer = c.remove.ensures.len in
    let P : Vec g.row.E.Denot Global → Type 0 = λ v. vec_len v ≡ vec_len c.args.lists.now in
    let each = subst (All P) e v.2 in
    let same = ap length c.collect.ensures.lists ∙ each_length (map list olds) h.items in
    let n = length-map news.items list in
    let m = length-map olds list in (
      search rules,
      omega (arith, same, n, m, v.1, news.ok.0, c.loop.lists.ok.0),
      All-tail P h rest each,
      c.collect.ensures.room (vec_len c.remove.new.self)
          (All-weaker (λ v. vec_len v + vec_len c.loop.hands ≤ vec_capacity v) (λ v. vec_len v + suc (vec_len c.remove.new.self) ≤ vec_capacity v)
          (λ v k. omega (arith, k, fewer, some, c.loop.hands.ok.0)) olds v.3),
      ap (λ rs. with_all rs (map list rest)) c.collect.ensures.lists ∙ sym (ap (λ hs. with_all (map list olds) (map list hs)) e) ∙ v.4,
    )

pub returns : goal.returns
returns g c =
    let none : length c.loop.hands.items ≡ 0 = search rules in
    sym (ap (λ hs. with_all (map list c.loop.lists.items) (map list hs)) (no_items c.loop.hands.items none)) ∙ c.loop.invariant.4
