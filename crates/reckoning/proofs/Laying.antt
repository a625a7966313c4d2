-- Parts laid one behind another: what was laid, and what is still to be, is all.
use Rattle.std.proofs.Common.{◌≡◌, ◌++◌, ◌∙◌, List, [], ◌∷◌, Option, length, map, ap, sym, append-nil, append_assoc}
use Rattle.std.proofs.lemmas.List.{map-append}
use Rattle.reckoning.specs.Gathered.{gravest}
use Rattle.reckoning.specs.declared.gather.Fault.{Fault}

pub laid : {A B : Type 0} (f : A → B) (done new : List B) (all : List B) (left rest : List A) (x : A)
    → done ++ map f left ≡ all → left ≡ x ∷ rest → new ≡ done ++ f x ∷ [] → new ++ map f rest ≡ all
laid f done new all left rest x before first more =
    ap (λ ys. ys ++ map f rest) more ∙ append_assoc done (f x ∷ []) (map f rest) ∙ ap (λ xs. done ++ map f xs) (sym first) ∙ before

-- the same of lists whose items are laid
pub laid_items : {A B C : Type 0} (items : C → B) (f : A → B) (done new : List C) (all : List B) (left rest : List A) (x : A) (y : C)
    → map items done ++ map f left ≡ all → left ≡ x ∷ rest → new ≡ done ++ y ∷ [] → items y ≡ f x → map items new ++ map f rest ≡ all
laid_items items f done new all left rest x y before first more same =
    laid f (map items done) (map items new) all left rest x before first
    (ap (λ ys. map items ys) more ∙ map-append items done (y ∷ []) ∙ ap (λ b. map items done ++ b ∷ []) same)

-- where nothing is left, what was laid is all
pub all_laid : {A B : Type 0} (f : A → B) (done all : List B) (left : List A) → length left ≡ 0 → done ++ map f left ≡ all → done ≡ all
all_laid f done all [] none is = sym (append-nil done) ∙ is
all_laid f done all (x ∷ left) none is = absurd (cc)

pub gravest_of_none : {A : Type 0} (f : A → Option Fault) (worst all : Option Fault) (left : List A) → length left ≡ 0 → gravest worst (map f left) ≡ all → worst ≡ all
gravest_of_none f worst all [] none is = is
gravest_of_none f worst all (x ∷ left) none is = absurd (cc)
