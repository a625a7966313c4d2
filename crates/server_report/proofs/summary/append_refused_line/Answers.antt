use Rattle.std.proofs.Common.{◌≡◌, ◌==◌, ℕ, Bool, false, List, [], ◌++◌, codes, decimal, if◌then◌else◌, refl, sym, ap, subst, ◌∙◌, arith}
use Rattle.std.proofs.lemmas.Bool.{ne_eqb}
use Rattle.std.proofs.lemmas.Result.{on_ok_weaker}
use Rattle.delivery_token.specs.declared.Refusal.{Refusal}
use Rattle.server_report.specs.Reasons.{count_for, reason_words}
use Rattle.server_report.specs.Summing.{refused_line}
use Rattle.server_report.specs.declared.counts.Refused.{Refused}
use Rattle.server_report.proofs.LineLaws.{five_told}
use Rattle.server_report.proofs.summary.append_refused_line.Goals as goal

picked : (b : Bool) (xs : List ℕ) → b ≡ false → xs ≡ (if b then [] else xs)
picked b xs e = subst (λ x. xs ≡ (if x then [] else xs)) (sym e) refl

-- the line of a reason that came
of_reason : (refused : Refused) (reason : Refusal) (count : ℕ) (old new : List ℕ) → count ≡ count_for refused reason → (count == 0) ≡ false
    → new ≡ old ++ (codes "copies refused " ++ reason_words reason ++ codes " " ++ decimal count ++ codes "\n") → new ≡ old ++ refused_line refused reason
of_reason refused reason count old new same apart is =
    is ∙ ap (λ n. old ++ (codes "copies refused " ++ reason_words reason ++ codes " " ++ decimal n ++ codes "\n")) same
    ∙ ap (λ l. old ++ l) (picked (count_for refused reason == 0) _ (subst (λ n. (n == 0) ≡ false) same apart))

pub returns : goal.returns
returns c =
    on_ok_weaker c.append_parts.result
    (λ is. of_reason c.args.refused c.args.reason c.count_for-count.result _ _ c.count_for-count.ensures (ne_eqb c.count_for-count.result 0 (λ e. omega (arith, e, c.if-count-eq0.false)))
    (five_told _ _ _ _ _ _ _ _ _ _ _ _ is c.as_slice.ensures c.reason_words.ensures c.as_slice-2.ensures (c.as_bytes.ensures.value ∙ c.format.ensures.text) c.as_slice-3.ensures))
    c.append_parts.ensures.ok
