use Rattle.std.proofs.Common.{◌∙◌, ◌<◌, map, [], slice_index_or, arith, sym, ap, length}
use Rattle.std.proofs.lemmas.List.{length-map}
use Rattle.running_house.proofs.MetLaws.{agrees_when_met}
use Rattle.running_house.proofs.OrderLaws.{met_when_in_order}
use Rattle.running_house.proofs.WalkLaws.{up_to, list_here, met_there}
use Rattle.running_house.proofs.agree.lists_agree.Goals as goal

pub loop-position-preserved : goal.loop-position-preserved
loop-position-preserved c =
    up_to _ c.loop-position.position c.loop-position.invariant
    (met_there c.args.whole (map (λ g. g.notes) c.args.logs.now) c.loop-position.position
    (ap (λ k. slice_index_or (map (λ v. v.items) c.args.copies.now) k []) (sym c.shard_of-shard.ensures.value) ∙ (list_here (λ v. v.items) c.args.copies.now c.shard_of-shard.result c.index-copies-shard.result (let u = c.requires in omega (arith, u)) c.index-copies-shard.is ∙ sym c.as_slice.ensures.value))
    (list_here (λ v. v.items) c.args.accepted.now c.loop-position.position c.index-accepted-position.result (omega arith) c.index-accepted-position.is ∙ sym c.as_slice-in-loop-position.ensures.value)
    (list_here (λ v. v.items) c.args.texts.now c.loop-position.position c.index-texts-position.result (omega arith) c.index-texts-position.is ∙ sym c.as_slice-in-loop-position-2.ensures.value)
    (c.in_ok-mailbox_agrees.ensures.0 c.if-not-branch.false))

pub returns-clause-agrees : goal.returns-clause-agrees
returns-clause-agrees c = λ h. record {
  mailboxes = (length-map c.args.accepted.now _ ∙ (let a = c.if-accepted-mailboxes.false in let v = c.mailboxes-mailboxes.ensures.value in omega (arith, a, v)), length-map c.args.texts.now _ ∙ (let a = c.if-texts-mailboxes.false in let v = c.mailboxes-mailboxes.ensures.value in omega (arith, a, v)));
  mailbox = λ m under. agrees_when_met _ _ _ m _ _ (c.loop-position.invariant m (let u = c.loop-position-test.false in let v = c.mailboxes-mailboxes.ensures.value in omega (arith, u, v, under)));
}

pub returns-then-not-branch-clause-found : goal.returns-then-not-branch-clause-found
returns-then-not-branch-clause-found c = λ order h.
    let m = c.loop-position.position in
    let under : m < length c.args.directory.now.homes = (let u = c.loop-position-test.true in let v = c.mailboxes-mailboxes.ensures.value in omega (arith, u, v)) in
    let met = met_there c.args.whole (map (λ g. g.notes) c.args.logs.now) m
    (sym (ap (λ k. slice_index_or (map (λ v. v.items) c.args.copies.now) k []) (sym c.shard_of-shard.ensures.value) ∙ (list_here (λ v. v.items) c.args.copies.now c.shard_of-shard.result c.index-copies-shard.result (let u = c.requires in omega (arith, u)) c.index-copies-shard.is ∙ sym c.as_slice.ensures.value)))
    (sym (list_here (λ v. v.items) c.args.accepted.now m c.index-accepted-position.result (omega arith) c.index-accepted-position.is ∙ sym c.as_slice-in-loop-position.ensures.value))
    (sym (list_here (λ v. v.items) c.args.texts.now m c.index-texts-position.result (omega arith) c.index-texts-position.is ∙ sym c.as_slice-in-loop-position-2.ensures.value))
    (met_when_in_order c.args.whole (map (λ g. g.notes) c.args.logs.now) _ m _ _ (order m under) (h.mailbox m under)) in
    let yes_it_does = c.in_ok-mailbox_agrees.ensures.1 met in
    absurd (let no_it_does = c.if-not-branch.true in cc)
