-- A text's header, line by line.
use Rattle.std.proofs.Common.{◌≡◌, ℕ, zero, suc, ◌+◌, ◌<◌, ◌≤◌, Bool, true, false, cond, List, [], ◌∷◌, ◌++◌, length, take, drop, arith, refl, ap, sym, ◌∙◌, length-drop, append_assoc}
use Rattle.std.specs.Prelude.{◌==◌, ◌&&◌}
use Rattle.std.proofs.lemmas.List.{drop-drop, length-take-le}
use Rattle.envelope.proofs.Sound.{first_cons}
use Rattle.envelope.proofs.Words.{both_true}
use Rattle.imap_answers.specs.Answers.{is_crlf, crlf, header_from, header}

crlf_cons : (xs : List ℕ) → is_crlf xs ≡ true → xs ≡ 13 ∷ 10 ∷ drop 2 xs
crlf_cons [] e = absurd cc
crlf_cons (x ∷ []) e = absurd (no (x == 13) e)
  where
    no : (t : Bool) → (t && false) ≡ true → ⊥
    no true k = cc
    no false k = cc
crlf_cons (x ∷ y ∷ xs) e =
    let k = both_true (x == 13) (y == 10) e in
    first_cons 13 (x ∷ y ∷ xs) k.0 ∙ ap (λ (l : List ℕ). 13 ∷ l) (first_cons 10 (y ∷ xs) k.1)

at_crlf : (fresh : Bool) (xs : List ℕ) → is_crlf xs ≡ true → header_from fresh xs ≡ cond fresh crlf (13 ∷ 10 ∷ header_from true (drop 2 xs))
at_crlf fresh xs e = ap (header_from fresh) (crlf_cons xs e)

at_other : (fresh : Bool) (xs : List ℕ) → is_crlf xs ≡ false → 0 < length xs → header_from fresh xs ≡ take 1 xs ++ header_from false (drop 1 xs)
at_other fresh [] e h = absurd (omega (arith, h))
at_other fresh (x ∷ []) e h = refl
at_other fresh (x ∷ y ∷ xs) e h =
    ap (λ (t : Bool). cond t (cond fresh crlf (13 ∷ 10 ∷ header_from true xs)) (x ∷ header_from false (y ∷ xs))) e

-- so many bytes, and then some more of what follows them
take_none : (n : ℕ) → take {A = ℕ} n [] ≡ []
take_none zero = refl
take_none (suc n) = refl

-- so many bytes, and then some more of what follows them
take_more : (n k : ℕ) (xs : List ℕ) → take (n + k) xs ≡ take n xs ++ take k (drop n xs)
take_more zero k xs = let e : 0 + k ≡ k = omega arith in ap (λ (j : ℕ). take j xs) e
take_more (suc n) k [] = take_none (suc n + k) ∙ sym (take_none k)
take_more (suc n) k (x ∷ xs) =
    let e : suc n + k ≡ suc (n + k) = omega arith in
    ap (λ (j : ℕ). take j (x ∷ xs)) e ∙ ap (λ (l : List ℕ). x ∷ l) (take_more n k xs)

moved : (text : List ℕ) (at k : ℕ) (f : List ℕ → List ℕ)
    → take (at + k) text ++ f (drop (at + k) text) ≡ take at text ++ (take k (drop at text) ++ f (drop k (drop at text)))
moved text at k f =
    ap (λ (l : List ℕ). l ++ f (drop (at + k) text)) (take_more at k text)
    ∙ ap (λ (l : List ℕ). (take at text ++ take k (drop at text)) ++ f l) (sym (drop-drop k at text))
    ∙ append_assoc (take at text) (take k (drop at text)) (f (drop k (drop at text)))

two : (xs : List ℕ) → is_crlf xs ≡ true → take 2 xs ≡ crlf
two xs e = ap (take 2) (crlf_cons xs e)

pub crlf_within : (text : List ℕ) (at : ℕ) → is_crlf (drop at text) ≡ true → at + 2 ≤ length text
crlf_within text at e =
    let size : length (drop at text) ≡ suc (suc (length (drop 2 (drop at text)))) = ap length (crlf_cons (drop at text) e) in
    omega (arith, size, length-drop at text)

pub header_over : (text : List ℕ) (at : ℕ) → is_crlf (drop at text) ≡ true → take at text ++ header_from false (drop at text) ≡ header text
    → take (at + 2) text ++ header_from true (drop (at + 2) text) ≡ header text
header_over text at e h =
    moved text at 2 (header_from true)
    ∙ ap (λ (l : List ℕ). take at text ++ (l ++ header_from true (drop 2 (drop at text)))) (two (drop at text) e)
    ∙ ap (λ (l : List ℕ). take at text ++ l) (sym (at_crlf false (drop at text) e))
    ∙ h

pub header_next : (text : List ℕ) (at : ℕ) (fresh : Bool) → is_crlf (drop at text) ≡ false → at < length text
    → take at text ++ header_from fresh (drop at text) ≡ header text
    → take (at + 1) text ++ header_from false (drop (at + 1) text) ≡ header text
header_next text at fresh e lt h =
    moved text at 1 (header_from false)
    ∙ ap (λ (l : List ℕ). take at text ++ l) (sym (at_other fresh (drop at text) e (omega (arith, length-drop at text))))
    ∙ h

pub header_found : (text : List ℕ) (at : ℕ) → is_crlf (drop at text) ≡ true → take at text ++ header_from true (drop at text) ≡ header text
    → take (at + 2) text ≡ header text
header_found text at e h =
    take_more at 2 text
    ∙ ap (λ (l : List ℕ). take at text ++ l) (two (drop at text) e ∙ sym (at_crlf true (drop at text) e))
    ∙ h

pub header_rest : (text : List ℕ) (n : ℕ) → take n text ≡ header text → n ≤ length text → drop n text ≡ drop (length (header text)) text
header_rest text n e le =
    let size : length (header text) ≡ n = ap length (sym e) ∙ length-take-le n text le in
    ap (λ (k : ℕ). drop k text) (sym size)
