use Rattle.std.proofs.Common.{◌≡◌, ◌∙◌, ap, arith, slice_index_or, slice_set}
use Rattle.lane_work.specs.Dispatching.{Dispatch}
use Rattle.lane_work.specs.declared.worker.Worked.{Worked}
use Rattle.lane_work.proofs.PermitLaws.{set_same}
use Rattle.reckoning.specs.inner.Histories.{HasSentAll}
use Rattle.reckoning.proofs.Histories.{all_of_them, one_more}
use Rattle.reckoning.proofs.learning.have_sent_all.Goals as goal

-- its dispatch is the one that it was
pub loop-number-preserved : goal.loop-number-preserved
loop-number-preserved g c =
    let v = c.loop-number.invariant in
    let xs = c.loop-number.worked.items in
    let n = c.loop-number.number in
    let x : Worked _ = c.index_mut.result.now in
    let put : Dispatch → Worked _ = λ d. record { ended = x.ended; receiver = x.receiver; replies = x.replies; log = x.log; dispatch = d; fate = x.fate } in (
      ap (λ (d : Dispatch). slice_set xs n (put d)) c.has_sent_all.ensures.same ∙ (ap (λ (w : Worked _). slice_set xs n w) c.index_mut.ensures.value ∙ (set_same xs n x ∙ v.0)),
      v.1,
      one_more (HasSentAll c.args.front.now) c.args.worked.now.items n x (omega (arith, c.loop-number-test.true, c.len-number-end.ensures, c.args.worked.now.ok.0))
          (c.index_mut.ensures.value ∙ ap (λ l. slice_index_or l n x) v.0) c.has_sent_all.ensures.own v.2,
    )

pub returns-clause-each : goal.returns-clause-each
returns-clause-each g c =
    all_of_them (HasSentAll c.args.front.now) c.args.worked.now.items c.loop-number.number (omega (arith, c.loop-number-test.false, c.len-number-end.ensures, c.args.worked.now.ok.0)) c.loop-number.invariant.2
