use Rattle.std.proofs.Common.{◌≡◌, ℕ, true, false, cond, List, [], ◌++◌, take, drop, ap, sym, ◌∙◌}
use Rattle.std.proofs.lemmas.List.{take_rest}
use Rattle.imap_answers.specs.Answers.{fields_from}
use Rattle.imap_answers.proofs.FieldSteps.{first_taken}
use Rattle.imap_answers.proofs.fields.first_field.Goals as goal

pub returns-clause-fields : goal.returns-clause-fields
returns-clause-fields c = λ takes.
    let xs : List ℕ = c.args.header.now in
    let n : ℕ = c.field_len-len.result in
    first_taken takes xs
    ∙ ap (λ (k : ℕ). cond (takes xs) (take k xs) [] ++ fields_from takes true false false (drop k xs)) (sym c.field_len-len.ensures.value)
    ∙ ap (λ (l : List ℕ). cond (takes xs) (take n xs) [] ++ fields_from takes true false false l) (sym (take_rest xs n))
