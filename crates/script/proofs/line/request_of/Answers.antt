use Rattle.std.proofs.Common.{◌≡◌, ℕ, List, false, refl, sym, ap, subst, ◌∙◌}
use Rattle.std.specs.Prelude.{codes}
use Rattle.std.specs.Str.{bytes_eq}
use Rattle.script.specs.inner.Script.{IsCut}
use Rattle.script.proofs.Words.{another_word, by_letter_alone}
use Rattle.script.proofs.line.request_of.Goals.{in-Some+else-eq+else-eq-2+else-eq-3+else-eq-4, in_default}
use Rattle.script.proofs.line.request_of.Goals as goal

pub returns-clause-reads : goal.returns-clause-reads
returns-clause-reads c =
    let line = c.args.line.now in
    let cut = c.cut_word.ensures in
    c.of_letter.ensures.reads ∙ elim c.match-cut_word.branch [
      | in-Some+else-eq+else-eq-2+else-eq-3+else-eq-4 w ↦
          let first = w.in-Some.word in
          let is_other = λ (word : List ℕ) (e : bytes_eq first.now word ≡ false) (one : IsCut line word c.cut_word.result). another_word line word c.cut_word.result first w.in-Some.rest one w.in-Some.is e in
          by_letter_alone line
          (is_other (codes "TAIL") (sym (w.eq.ensures ∙ ap (bytes_eq first.now) w.as_slice.ensures) ∙ w.if-eq.false) (cut (codes "TAIL") refl))
          (is_other (codes "HOLD") (sym (w.eq-in-Some.ensures ∙ ap (bytes_eq first.now) w.as_slice-in-Some.ensures) ∙ w.if-eq-2.false) (cut (codes "HOLD") refl))
          (is_other (codes "FREE") (sym (w.eq-in-Some-2.ensures ∙ ap (bytes_eq first.now) w.as_slice-in-Some-2.ensures) ∙ w.if-eq-3.false) (cut (codes "FREE") refl))
          (is_other (codes "CLOSE") (sym (w.eq-in-Some-3.ensures ∙ ap (bytes_eq first.now) w.as_slice-in-Some-3.ensures) ∙ w.if-eq-4.false) (cut (codes "CLOSE") refl))
      | in_default w ↦
          let none = λ (word : List ℕ) (one : IsCut line word c.cut_word.result). subst (IsCut line word) w.in_default.is one in
          by_letter_alone line (none (codes "TAIL") (cut (codes "TAIL") refl)) (none (codes "HOLD") (cut (codes "HOLD") refl)) (none (codes "FREE") (cut (codes "FREE") refl)) (none (codes "CLOSE") (cut (codes "CLOSE") refl))
    ]
