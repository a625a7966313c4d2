-- How an input is cut into its lines, from its front on.
use Rattle.std.proofs.Common.{◌≡◌, ℕ, ◌<◌, Bool, true, false, if◌then◌else◌, ◌==◌, List, [], ◌∷◌, length, map, refl, sym, ap, arith}
use Rattle.std.proofs.lemmas.Bool.{eqb-true}
use Rattle.std.specs.Io.BufRead.{take_through, drop_through}
use Rattle.script.specs.Script.{line_of, pieces, put_first}
use Rattle.script.specs.Telling.{lines_of}

piece_by : (b : ℕ) (bs : List ℕ) (t : Bool) → (b == 10) ≡ t → put_first b (pieces bs) ≡ (b ∷ take_through 10 bs) ∷ pieces (drop_through 10 bs)
    → (if t then (10 ∷ []) ∷ pieces bs else put_first b (pieces bs)) ≡ (if t then b ∷ [] else b ∷ take_through 10 bs) ∷ pieces (if t then bs else drop_through 10 bs)
piece_by b bs true e more = ap (λ (n : ℕ). (n ∷ []) ∷ pieces bs) (sym (eqb-true b 10 e))
piece_by b bs false e more = more

-- the first piece goes up to the first LF
first_piece : (b : ℕ) (bs : List ℕ) → pieces (b ∷ bs) ≡ take_through 10 (b ∷ bs) ∷ pieces (drop_through 10 (b ∷ bs))
first_piece b [] = piece_by b [] _ refl refl
first_piece b (c ∷ cs) = piece_by b (c ∷ cs) _ refl (ap (put_first b) (first_piece c cs))

-- so the first line of the input is that piece's
pub first_of_lines : (input : List ℕ) → 0 < length (take_through 10 input) → lines_of input ≡ line_of (take_through 10 input) ∷ lines_of (drop_through 10 input)
first_of_lines [] some = absurd (omega (arith, some))
first_of_lines (b ∷ bs) some = ap (map line_of) (first_piece b bs)
