-- Which of so many bytes a partial FETCH asks for.
use Rattle.std.proofs.Common.{◌≡◌, ℕ, ◌-◌, List, length, length-take, length-drop, take, drop, min, arith, ap, sym, ◌∙◌}
use Rattle.std.proofs.lemmas.List.{take_min}

-- no more than there are
pub part_in_span : (count origin len : ℕ) (bytes : List ℕ) → length bytes ≡ len → take (min count (len - origin)) (drop origin bytes) ≡ take count (drop origin bytes)
part_in_span count origin len bytes e =
    let size : length (drop origin bytes) ≡ len - origin = length-drop origin bytes ∙ ap (λ (n : ℕ). n - origin) e in
    ap (λ (n : ℕ). take (min count n) (drop origin bytes)) (sym size) ∙ take_min count (drop origin bytes)

pub part_len : (count origin len : ℕ) (bytes : List ℕ) → length bytes ≡ len → length (take count (drop origin bytes)) ≡ min count (len - origin)
part_len count origin len bytes e =
    length-take count (drop origin bytes) ∙ ap (λ (n : ℕ). min count n) (length-drop origin bytes ∙ ap (λ (n : ℕ). n - origin) e)
