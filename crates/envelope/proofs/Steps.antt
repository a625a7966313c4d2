-- One byte further.
use Rattle.std.proofs.Common.{◌≡◌, ℕ, suc, ◌+◌, ◌<◌, Bool, cond, List, ◌∷◌, length, get_or, drop, refl, ap, add-one, drop-cons}
use Rattle.std.specs.Prelude.{Some, None, ◌==◌, not, ◌&&◌}
use Rattle.std.specs.List.{prefix_len}
use Rattle.std.specs.Option.{option_map}
use Rattle.envelope.specs.Bytes.{is_text}
use Rattle.envelope.specs.Reading.{quoted_len}

pub drop_step : (xs : List ℕ) (i : ℕ) → i < length xs → drop i xs ≡ get_or xs i 0 ∷ drop (i + 1) xs
drop_step xs i h = rw (add-one, drop-cons xs i 0 h) refl

pub prefix_step : (p : ℕ → Bool) (xs : List ℕ) (i : ℕ) → i < length xs
    → prefix_len p (drop i xs) ≡ cond (p (get_or xs i 0)) (1 + prefix_len p (drop (i + 1) xs)) 0
prefix_step p xs i h = ap (prefix_len p) (drop_step xs i h)

pub quoted_step : (e : Bool) (xs : List ℕ) (i : ℕ) → i < length xs
    → quoted_len e (drop i xs) ≡ cond (not e && (get_or xs i 0 == 34)) (Some 1)
    (cond (is_text (get_or xs i 0)) (option_map suc (quoted_len (not e && (get_or xs i 0 == 92)) (drop (i + 1) xs))) None)
quoted_step e xs i h = ap (quoted_len e) (drop_step xs i h)
