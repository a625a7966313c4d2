-- One byte further.
use Rattle.std.proofs.Common.{◌≡◌, ℕ, suc, ◌+◌, ◌<◌, Bool, true, false, cond, List, ◌∷◌, length, get_or, drop, take, refl, ap, sym, ◌∙◌, arith, add-one, drop-cons, length-take}
use Rattle.std.specs.Prelude.{Option, Some, None, ◌==◌, not, ◌&&◌, ◌||◌, codes, map}
use Rattle.std.specs.Bool.{Decides}
use Rattle.std.specs.Char.{to_ascii_lowercase}
use Rattle.std.specs.Str.{str_eq_ignore_ascii_case as is_same}
use Rattle.std.proofs.lemmas.Slice.Eq.{bytes_eq-Decides}
use Rattle.std.proofs.lemmas.List.{length-map}
use Rattle.std.specs.List.{prefix_len}
use Rattle.std.specs.Option.{option_map}
use Rattle.mail_date.specs.declared.place.Place.{Place}
use Rattle.mail_date.specs.Bytes.{is_white}
use Rattle.mail_date.specs.Reading.{blank_len, behind, is_outside}
use Rattle.mail_date.specs.Fields.{field_len, ends_field, is_empty_line, past_name, body_or, received_body, last_semicolon}

pub drop_step : (xs : List ℕ) (i : ℕ) → i < length xs → drop i xs ≡ get_or xs i 0 ∷ drop (i + 1) xs
drop_step xs i h = rw (add-one, drop-cons xs i 0 h) refl

pub prefix_step : (p : ℕ → Bool) (xs : List ℕ) (i : ℕ) → i < length xs
    → prefix_len p (drop i xs) ≡ cond (p (get_or xs i 0)) (1 + prefix_len p (drop (i + 1) xs)) 0
prefix_step p xs i h = ap (prefix_len p) (drop_step xs i h)

pub blank_step : (p : Place) (xs : List ℕ) (i : ℕ) → i < length xs
    → blank_len p (drop i xs) ≡ cond ((p.depth == 0) && not (is_white (get_or xs i 0) || (get_or xs i 0 == 40))) (Some 0)
    (option_map suc (blank_len (behind p (get_or xs i 0)) (drop (i + 1) xs)))
blank_step p xs i h = ap (blank_len p) (drop_step xs i h)

pub field_step : (xs : List ℕ) (i : ℕ) → i < length xs
    → field_len (drop i xs) ≡ cond (ends_field (get_or xs i 0) (drop (i + 1) xs)) 0 (1 + field_len (drop (i + 1) xs))
field_step xs i h = ap field_len (drop_step xs i h)

pub semicolon_step : (p : Place) (n : ℕ) (found : Option ℕ) (xs : List ℕ) (i : ℕ) → i < length xs
    → last_semicolon p n found (drop i xs)
    ≡ last_semicolon (behind p (get_or xs i 0)) (n + 1) (cond (is_outside p && (get_or xs i 0 == 59)) (Some (n + 1)) found) (drop (i + 1) xs)
semicolon_step p n found xs i h = ap (last_semicolon p n found) (drop_step xs i h)

pub body_step : (starts : Bool) (xs : List ℕ) (i : ℕ) → i < length xs
    → received_body starts (drop i xs)
    ≡ cond (starts && is_empty_line (drop i xs)) None
    (body_or (cond starts (past_name (codes "Received") (drop i xs)) None) (received_body (ends_field (get_or xs i 0) (drop (i + 1) xs)) (drop (i + 1) xs)))
body_step starts xs i h = rw (drop_step xs i h) refl

pub is_same_decides : (x y : List ℕ) → Decides (is_same x y) (map to_ascii_lowercase x ≡ map to_ascii_lowercase y)
is_same_decides x y = bytes_eq-Decides (map to_ascii_lowercase x) (map to_ascii_lowercase y)

decides_false : {P : Type 0} (b : Bool) → Decides b P → (P → ⊥) → b ≡ false
decides_false true h n = absurd (n (h.0 refl))
decides_false false h n = refl

pub shorter_differs : (x y : List ℕ) → length y < length x → is_same (take (length x) y) x ≡ false
shorter_differs x y h =
    decides_false (is_same (take (length x) y) x) (is_same_decides (take (length x) y) x)
    (λ e.
    let k : length (take (length x) y) ≡ length x = sym (length-map (take (length x) y) to_ascii_lowercase) ∙ ap length e ∙ length-map x to_ascii_lowercase in
    omega (arith, length-take (length x) y))
