-- Numbers that grow by their digits.
use Rattle.std.proofs.Common.{◌≡◌, ℕ, ◌+◌, ◌*◌, ◌-◌, ◌<◌, ◌≤◌, false, nat_le, ◌&&◌, min, List, [], ◌∷◌, length, drop, get_or, arith, ap, sym, ◌∙◌}
use Rattle.std.proofs.lemmas.Bool.Decides.{nat_tests}
use Rattle.std.proofs.lemmas.List.{drop_all}
use Rattle.envelope.proofs.Steps.{drop_step}
use Rattle.imap_grammar.specs.Numbers.{most_size, number_of, number_from}
use Rattle.imap_grammar.specs.Bytes.{is_digit}
use Rattle.std.specs.List.{list_all}

pub number_step : (n : ℕ) (xs : List ℕ) (i : ℕ) → i < length xs
    → number_from n (drop i xs) ≡ number_from (n * 10 + (get_or xs i 0 - 48)) (drop (i + 1) xs)
number_step n xs i h = ap (number_from n) (drop_step xs i h)

pub digits_step : (xs : List ℕ) (i : ℕ) → i < length xs
    → list_all is_digit (drop i xs) ≡ (is_digit (get_or xs i 0) && list_all is_digit (drop (i + 1) xs))
digits_step xs i h = ap (list_all is_digit) (drop_step xs i h)

pub number_from-ge : (n : ℕ) (bs : List ℕ) → n ≤ number_from n bs
number_from-ge n [] = omega arith
number_from-ge n (b ∷ bs) = omega (arith, number_from-ge (n * 10 + (b - 48)) bs)

-- digits so far that say too much leave no number
pub too_great : (text : List ℕ) (n i most : ℕ) → i < length text → number_from n (drop i text) ≡ number_of text
    → most < n * 10 + (get_or text i 0 - 48) → nat_le (number_of text) most ≡ false
too_great text n i most lt h big =
    let e : number_from (n * 10 + (get_or text i 0 - 48)) (drop (i + 1) text) ≡ number_of text = sym (number_step n text i lt) ∙ h in
    let g : most < number_of text = omega (arith, number_from-ge (n * 10 + (get_or text i 0 - 48)) (drop (i + 1) text), e) in
    grind (arith, nat_tests)

-- numbers that count as the same still do after a digit more
same_next : (x y d : ℕ) → min x most_size ≡ min y most_size → min (x * 10 + d) most_size ≡ min (y * 10 + d) most_size
same_next x y d e = omega (arith, e)

same_from : (x y : ℕ) (bs : List ℕ) → min x most_size ≡ min y most_size → min (number_from x bs) most_size ≡ min (number_from y bs) most_size
same_from x y [] e = e
same_from x y (b ∷ bs) e = same_from (x * 10 + (b - 48)) (y * 10 + (b - 48)) bs (same_next x y (b - 48) e)

capped_digit : (n d : ℕ) → min (min (min (n * 10) most_size + d) most_size) most_size ≡ min (n * 10 + d) most_size
capped_digit n d = omega arith

pub capped_step : (n : ℕ) (xs : List ℕ) (i : ℕ) → i < length xs
    → min (number_from (min (min (n * 10) most_size + (get_or xs i 0 - 48)) most_size) (drop (i + 1) xs)) most_size ≡ min (number_from n (drop i xs)) most_size
capped_step n xs i h =
    let d = get_or xs i 0 - 48 in
    same_from (min (min (n * 10) most_size + d) most_size) (n * 10 + d) (drop (i + 1) xs) (capped_digit n d)
    ∙ ap (λ (k : ℕ). min k most_size) (sym (number_step n xs i h))

-- all digits were taken, and the number so far fits
pub last_step : (n : ℕ) (xs : List ℕ) (i : ℕ) → length xs ≤ i → n ≤ most_size → min (number_from n (drop i xs)) most_size ≡ n
last_step n xs i h small = ap (λ (l : List ℕ). min (number_from n l) most_size) (drop_all i xs h) ∙ omega (arith, small)
