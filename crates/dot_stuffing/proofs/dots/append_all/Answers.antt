use Rattle.std.proofs.Common.{◌≡◌, [], ◌∷◌, ◌++◌, ◌+◌, sym, ap, ◌∙◌, arith, take, get_or, true, false, append_assoc}
use Rattle.std.specs.Prelude.{if◌then◌else◌}
use Rattle.dot_stuffing.specs.Data.{stuffed}
use Rattle.std.proofs.lemmas.List.{take_more}
use Rattle.std.proofs.lemmas.Bool.{eqb-true, eq-eqb}
use Rattle.std.proofs.lemmas.Bool.Decides.{nat_tests}
use Rattle.dot_stuffing.proofs.Stuffed.{stands_next, next_byte}
use Rattle.dot_stuffing.proofs.dots.append_all.Goals as goal
use Rattle.dot_stuffing.proofs.dots.append_all.Goals.{then-at_start, else-at_start, then-byte-eq-LF, else-byte-eq-LF}

pub loop-byte-preserved : goal.loop-byte-preserved
loop-byte-preserved c =
    let more : take (c.loop-byte.byte-index + 1) c.args.text.now ≡ take c.loop-byte.byte-index c.args.text.now ++ get_or c.args.text.now c.loop-byte.byte-index 0 ∷ [] = take_more c.args.text.now c.loop-byte.byte-index 0 (omega arith) in
    let inv = c.loop-byte.invariant in
    record {
      stands = rw more (stands_next _ _ _ _ _ _ inv.stands
          (λ t. elim c.if-byte-eq-LF.branch [
            | then-byte-eq-LF w ↦ (w.if-byte-eq-LF.true, sym w.at_start-is ∙ t)
            | else-byte-eq-LF w ↦ absurd (w.if-byte-eq-LF.false (eqb-true _ 10 (sym w.at_start-is ∙ t)))
          ])
          (λ f b cr. elim c.if-byte-eq-LF.branch [
            | then-byte-eq-LF w ↦ (let e : true ≡ false = sym cr ∙ sym w.at_start-is ∙ f in cc)
            | else-byte-eq-LF w ↦ w.if-byte-eq-LF.false b
          ])
          (λ t. grind (arith, nat_tests))
          (λ t e. grind (arith, nat_tests)));
      wire =
          let byte = get_or c.args.text.now c.loop-byte.byte-index 0 in
          let dotted : stuffed (take c.loop-byte.byte-index c.args.text.now ++ byte ∷ []) ≡ stuffed (take c.loop-byte.byte-index c.args.text.now) ++ (if c.if-at_start.is_dotted then 46 ∷ byte ∷ [] else byte ∷ []) =
          next_byte _ _ _ c.if-at_start.is_dotted byte inv.stands
          (λ t. elim c.if-at_start.branch [
            | then-at_start w ↦ (w.if-at_start.true, eqb-true _ 46 (sym w.is_dotted-is ∙ t))
            | else-at_start w ↦ (let e : true ≡ false = sym (sym w.is_dotted-is ∙ t) ∙ w.if-at_start.false in cc)
          ])
          (λ f t b. elim c.if-at_start.branch [
            | then-at_start w ↦ (let e : true ≡ false = sym (eq-eqb _ 46 b) ∙ sym w.is_dotted-is ∙ f in cc)
            | else-at_start w ↦ (let e : true ≡ false = sym t ∙ w.if-at_start.false in cc)
          ]) in
          rw (more, dotted, ← append_assoc) (c.in_ok-append.ensures.ok ∙ ap (λ t. t ++ (if c.if-at_start.is_dotted then 46 ∷ byte ∷ [] else byte ∷ [])) inv.wire);
    }
