use Rattle.std.proofs.Common.{◌≡◌, ℕ, List, ◌++◌, ◌∙◌, ap, refl, arith, take, ◌+◌, append_assoc, get_or, [], ◌∷◌}
use Rattle.std.proofs.lemmas.List.{take_more, length-drop}
use Rattle.line_io.specs.Cutting.{LineCutter, StandsFor}
use Rattle.line_io.proofs.Lines.{tells_joined, stands_begun, run_joined}
use Rattle.line_io.proofs.cutter.LineCutter.take.Goals as goal

pub returns-in_default : goal.returns-in_default
returns-in_default c =
    let piece = c.args.piece.now in
    let end = c.loop-used.used + c.take_run-used.result in
    let more : take (end + 1) piece ≡ take end piece ++ get_or piece end 0 ∷ [] = take_more piece end 0 (omega arith) in
    let s = λ (stream : List ℕ) (at : StandsFor c.args.self.now stream).
    (let before = c.loop-used.invariant.stands stream (rw c.begin.ensures (stands_begun _ _ at)) in
    run_joined _ stream piece c.loop-used.used c.take_run-used.result before.1 (c.take_run-used.ensures.stands _ before.0)) in
    record {
      used = omega arith;
      some_used = λ _. omega arith;
      all_used = λ e. absurd (c.in_default.not-NeedMore e);
      line = c.step.ensures.line;
      max = c.step.ensures.max ∙ c.take_run-used.ensures.max ∙ c.loop-used.invariant.max ∙ ap (λ (t : LineCutter). t.max) c.begin.ensures;
      stands = λ stream at. rw (more, ← append_assoc stream _ _) (c.step.ensures.lines _ (s stream at).0).0;
      lines = λ stream at. rw more (tells_joined _ _ stream _ _ (s stream at).1 (c.step.ensures.lines _ (s stream at).0).1);
    }

pub loop-used-preserved-in-NeedMore : goal.loop-used-preserved-in-NeedMore
loop-used-preserved-in-NeedMore c =
    let piece = c.args.piece.now in
    let end = c.loop-used.used + c.take_run-used.result in
    let more : take (end + 1) piece ≡ take end piece ++ get_or piece end 0 ∷ [] = take_more piece end 0 (omega arith) in
    record {
      within = omega arith;
      max = c.in-NeedMore.ensures.max ∙ c.take_run-used.ensures.max ∙ c.loop-used.invariant.max;
      line = c.in-NeedMore.ensures.no_line refl;
      stands = λ stream at.
          let before = c.loop-used.invariant.stands stream at in
          let s = run_joined _ stream piece c.loop-used.used c.take_run-used.result before.1 (c.take_run-used.ensures.stands _ before.0) in
          let t = c.in-NeedMore.ensures.lines _ s.0 in
          rw (more, ← append_assoc stream _ _) (t.0, t.1 ∙ s.1);
    }

pub loop-used-preserved : goal.loop-used-preserved
loop-used-preserved c = record {
  within = omega (arith, c.take_run-used.ensures.within, length-drop c.loop-used.used c.args.piece.now);
  max = c.take_run-used.ensures.max ∙ c.loop-used.invariant.max;
  line = c.take_run-used.ensures.line;
  stands = λ stream at.
      let before = c.loop-used.invariant.stands stream at in
      run_joined _ stream c.args.piece.now c.loop-used.used c.take_run-used.result before.1 (c.take_run-used.ensures.stands _ before.0);
}
