use Rattle.std.proofs.Common.{rules, ◌≡◌, ◌++◌, ◌∷◌, [], ◌∙◌, ap, arith, refl, true, false, length, length-append}
use Rattle.shard_queue.specs.Reply.{received}
use Rattle.lane_work.specs.Ends.{ends_in}
use Rattle.lane_work.proofs.PermitLaws.{ends_next}
use Rattle.lane_work.proofs.SlotLaws.{start_on, start_same}
use Rattle.lane_work.proofs.ending.hear_ends.Goals as goal

pub loop-preserved : goal.loop-preserved
loop-preserved g c =
    let old = received c.loop.receiver in
    let grew : received c.recv_as.new.permit ≡ old ++ c.recv_as.result ∷ [] = search rules in
    let e = ap ends_in grew ∙ ends_next old c.recv_as.result in
    let none : ends_in (c.recv_as.result ∷ []) ≡ 0 = c.is_end.ensures.other c.if-is_end.false in (
      c.recv_as.ensures.permit,
      omega (arith, e, c.loop.invariant.1),
      start_on (received c.args.receiver.now) old (received c.recv_as.new.permit) c.loop.invariant.2 (c.recv_as.result ∷ [], grew),
      (let n = ap length grew ∙ length-append old (c.recv_as.result ∷ []) in let k = c.loop.invariant.3 in omega (arith, n, e, none, k)),
      c.loop.invariant.4,
      c.loop.invariant.5,
      omega (arith, e, none, c.loop.invariant.6),
      ((λ q. absurd (let f : false ≡ true = q in cc)), λ same. absurd (let n = ap length grew ∙ length-append old (c.recv_as.result ∷ []) in let k = c.loop.invariant.3 in omega (arith, n, e, none, k, same))),
    )

pub loop-preserved-then-is_end : goal.loop-preserved-then-is_end
loop-preserved-then-is_end g c =
    let old = received c.loop.receiver in
    let grew : received c.recv_as.new.permit ≡ old ++ c.recv_as.result ∷ [] = search rules in
    let e = ap ends_in grew ∙ ends_next old c.recv_as.result in
    let one : ends_in (c.recv_as.result ∷ []) ≡ 1 = c.is_end.ensures.end c.if-is_end.true in (
      c.recv_as.ensures.permit,
      (let k = c.loop.invariant.1 in omega (arith, e, one, k)),
      start_on (received c.args.receiver.now) old (received c.recv_as.new.permit) c.loop.invariant.2 (c.recv_as.result ∷ [], grew),
      (let n = ap length grew ∙ length-append old (c.recv_as.result ∷ []) in let k = c.loop.invariant.3 in omega (arith, n, e, one, k)),
      (let h = c.loop.invariant.4 in omega (arith, h)),
      (let h = c.loop.invariant.5 in let l = c.loop.invariant.4 in let f = c.if-heard-shards.false in omega (arith, h, l, f)),
      (let k = c.loop.invariant.6 in omega (arith, e, one, k)),
      (
        (λ q. let n = ap length grew ∙ length-append old (c.recv_as.result ∷ []) in let k = c.loop.invariant.7.0 q in omega (arith, n, e, one, k)),
        λ same. c.loop.invariant.7.1 (let n = ap length grew ∙ length-append old (c.recv_as.result ∷ []) in omega (arith, n, e, one, same)),
      ),
    )

pub loop-init : goal.loop-init
loop-init g c = (c.requires, omega arith, start_same (received c.args.receiver.now), omega arith, omega arith, omega arith, refl, ((λ q. refl), λ same. refl))
