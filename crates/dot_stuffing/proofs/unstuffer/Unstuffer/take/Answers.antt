use Rattle.std.proofs.Common.{◌∙◌, arith}
use Rattle.dot_stuffing.proofs.Runs.{run_in_parts, tells_in_parts}
use Rattle.dot_stuffing.specs.declared.Progress.TheVariants.{More}
use Rattle.dot_stuffing.proofs.unstuffer.Unstuffer.take.Goals as goal

pub loop-used-preserved-in-More : goal.loop-used-preserved-in-More
loop-used-preserved-in-More c = record {
  within = omega arith;
  max = c.in-More.ensures.max ∙ c.take_run-used.ensures.max ∙ c.loop-used.invariant.max;
  behind = λ front h. c.in-More.ensures.behind front (c.take_run-used.ensures.behind front (c.loop-used.invariant.behind front h));
  live = c.in-More.ensures.outcome;
  stands = λ wire s.
      tells_in_parts More _ wire c.args.piece.now c.loop-used.used c.take_run-used.result (omega arith)
      (c.in-More.ensures.data _ (c.take_run-used.ensures.stands _ (c.loop-used.invariant.stands wire s)));
}

pub returns-in_default-clause-data : goal.returns-in_default-clause-data
returns-in_default-clause-data c wire s =
    tells_in_parts c.step.result _ wire c.args.piece.now c.loop-used.used c.take_run-used.result (omega arith)
    (c.step.ensures.data _ (c.take_run-used.ensures.stands _ (c.loop-used.invariant.stands wire s)))

pub loop-used-preserved : goal.loop-used-preserved
loop-used-preserved c = record {
  within = omega arith;
  max = c.take_run-used.ensures.max ∙ c.loop-used.invariant.max;
  behind = λ front h. c.take_run-used.ensures.behind front (c.loop-used.invariant.behind front h);
  live = c.take_run-used.ensures.outcome;
  stands = λ wire s.
      run_in_parts _ wire c.args.piece.now c.loop-used.used c.take_run-used.result
      (c.take_run-used.ensures.stands _ (c.loop-used.invariant.stands wire s));
}

pub returns-in_default-clause-behind : goal.returns-in_default-clause-behind
returns-in_default-clause-behind c front h = c.step.ensures.behind front (c.take_run-used.ensures.behind front (c.loop-used.invariant.behind front h))
