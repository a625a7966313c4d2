-- The first wire line of a byte string, by its first CRLF.
use Rattle.std.proofs.Common.{◌≡◌, ℕ, suc, ◌+◌, ◌<◌, List, [], ◌∷◌, ◌++◌, length, take, drop, get_or, refl, sym, ap, ◌∙◌, arith, append_assoc, length-append, take-append-drop, drop-cons}
use Rattle.std.proofs.Math.Seq.{get_or-append_seam}
use Rattle.std.proofs.lemmas.List.{get_or-append-add, get_or-take, length-take-le}
use Rattle.std.proofs.lemmas.List.Elements.{All-cons, All-nil}
use Rattle.line_io.specs.Wire.{IsUncut, joined, crlf, wire_lines, wire_rest}
use Rattle.line_io.specs.inner.WireLaws.{lines_are, reading_cut}

-- a CRLF stands at no position
pub uncut_each : (bytes : List ℕ) → ((k : ℕ) → k + 1 < length bytes → get_or bytes k 0 ≡ 13 → get_or bytes (k + 1) 0 ≡ 10 → ⊥) → IsUncut bytes
uncut_each bytes h (front, back, e) =
    let long : length bytes ≡ length front + length (13 ∷ 10 ∷ back) = ap length e ∙ length-append front (13 ∷ 10 ∷ back) in
    h (length front) (omega arith)
    (ap (λ t. get_or t (length front) 0) e ∙ get_or-append_seam front 13 (10 ∷ back) 0)
    (ap (λ t. get_or t (length front + 1) 0) e ∙ get_or-append-add front (13 ∷ 10 ∷ back) 1 0)

-- so the bytes are within one line
pub no_line : (bytes : List ℕ) → ((k : ℕ) → k + 1 < length bytes → get_or bytes k 0 ≡ 13 → get_or bytes (k + 1) 0 ≡ 10 → ⊥) → wire_lines bytes ≡ []
no_line bytes h = (lines_are bytes [] bytes (record { whole = refl; each = All-nil IsUncut; open_end = uncut_each bytes h })).0

first_of_joined : (l : List ℕ) (ls : List (List ℕ)) (r : List ℕ) → joined (l ∷ ls) ++ r ≡ l ++ 13 ∷ 10 ∷ (joined ls ++ r)
first_of_joined l ls r = append_assoc (l ++ crlf) (joined ls) r ∙ append_assoc l crlf (joined ls ++ r)

-- the first CRLF ends the first line
pub line_at : (bytes : List ℕ) (at : ℕ) → at + 1 < length bytes → get_or bytes at 0 ≡ 13 → get_or bytes (at + 1) 0 ≡ 10
    → ((k : ℕ) → k < at → get_or bytes k 0 ≡ 13 → get_or bytes (k + 1) 0 ≡ 10 → ⊥) → wire_lines bytes ≡ take at bytes ∷ wire_lines (drop (at + 2) bytes)
line_at bytes at within cr lf before =
    let more = drop (at + 2) bytes in
    let cut = reading_cut more in
    let one : at < length bytes = omega arith in
    let long : length (take at bytes) ≡ at = length-take-le at bytes (omega arith) in
    let front : (k : ℕ) → k + 1 < length (take at bytes) → get_or (take at bytes) k 0 ≡ 13 → get_or (take at bytes) (k + 1) 0 ≡ 10 → ⊥
    = λ k h x y. let m : k + 1 < at = omega arith in before k (omega arith) (sym (get_or-take at bytes k 0 (omega arith)) ∙ x) (sym (get_or-take at bytes (k + 1) 0 m) ∙ y) in
    let a : drop at bytes ≡ get_or bytes at 0 ∷ drop (at + 1) bytes = drop-cons bytes at 0 one ∙ ap (λ n. get_or bytes at 0 ∷ drop n bytes) (let e : suc at ≡ at + 1 = omega arith in e) in
    let b : drop (at + 1) bytes ≡ get_or bytes (at + 1) 0 ∷ drop (at + 2) bytes = drop-cons bytes (at + 1) 0 within ∙ ap (λ n. get_or bytes (at + 1) 0 ∷ drop n bytes) (let e : suc (at + 1) ≡ at + 2 = omega arith in e) in
    let ends : drop at bytes ≡ 13 ∷ 10 ∷ more = a ∙ ap (λ n. n ∷ drop (at + 1) bytes) cr ∙ ap (λ t. 13 ∷ t) (b ∙ ap (λ n. n ∷ more) lf) in
    (lines_are bytes (take at bytes ∷ wire_lines more) (wire_rest more) (record {
      whole = sym (take-append-drop at bytes) ∙ ap (λ t. take at bytes ++ t) (ends ∙ ap (λ t. 13 ∷ 10 ∷ t) cut.whole) ∙ sym (first_of_joined (take at bytes) (wire_lines more) (wire_rest more));
      each = All-cons IsUncut (take at bytes) (wire_lines more) (uncut_each (take at bytes) front) cut.each;
      open_end = cut.open_end;
    })).0
