use Rattle.std.proofs.Common.{rules, ◌≡◌, ◌<◌, ◌≤◌, ◌+◌, ◌++◌, ◌∷◌, [], suc, Vec, Global, ◌∙◌, sym, subst, length, vec_len, vec_capacity, arith}
use Rattle.lane_work.proofs.StepLaws.{Grows, list, ahead, all_after, all_done, moved, one_step, step_length, weaker}
use Rattle.lane_work.proofs.RowLaws.{grown}
use Rattle.lane_work.proofs.lanes.collect.Goals as goal

pub push_reserved-requires : goal.push_reserved-requires
push_reserved-requires g c =
    let i = c.loop-position.position in
    let under : i < length c.args.lists.now.items = search rules in
    let v = c.loop-position.invariant in
    subst (λ (z : Vec g.row.E.Denot Global). vec_len z < vec_capacity z) (sym (c.index_mut.ensures.value ∙ ahead Grows i c.args.lists.now.items c.loop-position.lists.items v.1 v.3 c.index_mut.result.now))
    (c.requires.room i c.index_mut.result.now under)

pub loop-position-preserved : goal.loop-position-preserved
loop-position-preserved g c =
    let i = c.loop-position.position in
    let olds = c.args.lists.now.items in
    let news = c.loop-position.lists.items in
    let v = c.loop-position.invariant in
    let x = c.index_mut.result.now in
    let y = c.push_reserved.new.self in
    let e = c.remove.result in
    let n = step_length Grows i olds news v.1 v.3 in
    let under : i < length news = search rules in (
      search rules,
      v.1 ++ e ∷ [],
      moved c.args.values.items v.1 c.loop-position.values.items c.remove.new.self.items e v.2 (omega (arith, c.loop-position.invariant.0, c.loop-position-test.true, c.loop-position.values.ok.0))
          c.remove.ensures.value c.remove.ensures.items,
      one_step Grows i olds news v.1 v.3 x y e under
          (subst (λ z. Grows z y e) c.index_mut.ensures.value (c.push_reserved.ensures.items, c.push_reserved.ensures.len, c.push_reserved.ensures.capacity)),
    )

pub returns-clause-lists : goal.returns-clause-lists
returns-clause-lists g c =
    let v = c.loop-position.invariant in
    let olds = c.args.lists.now.items in
    let e : c.loop-position.position ≡ length olds = search rules in
    let none : length c.loop-position.values.items ≡ 0 = search rules in
    let all = all_done Grows c.loop-position.position olds c.loop-position.lists.items v.1 c.loop-position.values.items c.args.values.items v.3 e none v.2 in
    grown list olds c.loop-position.lists.items c.args.values.items
    (weaker Grows (λ o n e. list n ≡ list o ++ e ∷ []) (λ o n e h. h.0) (length olds) olds c.loop-position.lists.items c.args.values.items all)

pub returns-clause-room : goal.returns-clause-room
returns-clause-room g c n room =
    let v = c.loop-position.invariant in
    let olds = c.args.lists.now.items in
    let e : c.loop-position.position ≡ length olds = search rules in
    let none : length c.loop-position.values.items ≡ 0 = search rules in
    let all = all_done Grows c.loop-position.position olds c.loop-position.lists.items v.1 c.loop-position.values.items c.args.values.items v.3 e none v.2 in
    all_after Grows (λ o. vec_len o + suc n ≤ vec_capacity o) (λ o. vec_len o + n ≤ vec_capacity o) (λ o n e h k. let len = h.1 in let cap = h.2 in omega (arith, len, cap, k))
    olds c.loop-position.lists.items c.args.values.items all room
