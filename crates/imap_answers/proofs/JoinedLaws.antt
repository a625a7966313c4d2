-- Words with a space between two, from left to right.
use Rattle.std.proofs.Common.{◌≡◌, ℕ, ◌+◌, ◌≤◌, Bool, true, false, List, [], ◌∷◌, ◌++◌, length, length-append, take, arith, refl, ap, sym, ◌∙◌, append_assoc}
use Rattle.std.specs.Prelude.{Result, Ok, Err, OnErr, Option, Some, None, MatchOption, ◌&&◌, map}
use Rattle.std.specs.Io.{StartsWith}
use Rattle.std.proofs.lemmas.List.{take-take, take_at, map-append}
use Rattle.change_ring.specs.Words.{spaced}
use Rattle.imap_answers.specs.inner.Joined.{lead, joined, is_none, whole}

others_joined : (w : List ℕ) (ws : List (List ℕ)) → spaced (w ∷ ws) ≡ w ++ joined false ws
others_joined w [] = sym (none w)
  where
    none : (xs : List ℕ) → xs ++ [] ≡ xs
    none [] = refl
    none (x ∷ xs) = ap (λ (l : List ℕ). x ∷ l) (none xs)
others_joined w (v ∷ ws) = ap (λ (l : List ℕ). w ++ 32 ∷ l) (others_joined v ws)

pub spaced_joined : (ws : List (List ℕ)) → spaced ws ≡ joined true ws
spaced_joined [] = refl
spaced_joined (w ∷ ws) = others_joined w ws

pub joined_more : (first : Bool) (xs ys : List (List ℕ)) → joined first (xs ++ ys) ≡ joined first xs ++ joined (first && is_none xs) ys
joined_more true [] ys = refl
joined_more false [] ys = refl
joined_more first (x ∷ xs) ys =
    ap (λ (l : List ℕ). lead first x ++ l) (joined_more false xs ys)
    ∙ sym (append_assoc (lead first x) (joined false xs) (joined false ys))
    ∙ never first
  where
    never : (t : Bool) → (lead first x ++ joined false xs) ++ joined false ys ≡ joined first (x ∷ xs) ++ joined (t && is_none (x ∷ xs)) ys
    never true = refl
    never false = refl

none_map : {A : Type 0} (g : A → List ℕ) (xs : List A) → is_none (map g xs) ≡ is_none xs
none_map g [] = refl
none_map g (x ∷ xs) = refl

joined_map : {A : Type 0} (g : A → List ℕ) (first : Bool) (xs ys : List A) → joined first (map g (xs ++ ys)) ≡ joined first (map g xs) ++ joined (first && is_none xs) (map g ys)
joined_map g first xs ys =
    ap (joined first) (map-append g xs ys)
    ∙ joined_more first (map g xs) (map g ys)
    ∙ ap (λ (t : Bool). joined first (map g xs) ++ joined (first && t) (map g ys)) (none_map g xs)

-- three lists of words, printed one after the other
pub three_joined : {A : Type 0} (g : A → List ℕ) (xs ys zs : List A) (one two : Bool) → one ≡ is_none xs → two ≡ (one && is_none ys)
    → spaced (map g (xs ++ (ys ++ zs))) ≡ joined true (map g xs) ++ (joined one (map g ys) ++ joined two (map g zs))
three_joined g xs ys zs one two e f =
    spaced_joined (map g (xs ++ (ys ++ zs)))
    ∙ joined_map g true xs (ys ++ zs)
    ∙ ap (λ (t : Bool). joined true (map g xs) ++ joined t (map g (ys ++ zs))) (sym e)
    ∙ ap (λ (l : List ℕ). joined true (map g xs) ++ l) (joined_map g one ys zs)
    ∙ ap (λ (t : Bool). joined true (map g xs) ++ (joined one (map g ys) ++ joined t (map g zs))) (sym f)

-- how long they are
pub three_sizes : {A : Type 0} (g : A → List ℕ) (xs ys zs : List A) (one two : Bool) → one ≡ is_none xs → two ≡ (one && is_none ys)
    → length (spaced (map g (xs ++ (ys ++ zs)))) ≡ length (joined true (map g xs)) + (length (joined one (map g ys)) + length (joined two (map g zs)))
three_sizes g xs ys zs one two e f =
    ap length (three_joined g xs ys zs one two e f)
    ∙ length-append (joined true (map g xs)) (joined one (map g ys) ++ joined two (map g zs))
    ∙ ap (λ (n : ℕ). length (joined true (map g xs)) + n) (length-append (joined one (map g ys)) (joined two (map g zs)))

pub starts_behind : (old mid new added : List ℕ) → StartsWith new mid → mid ≡ old ++ added → StartsWith new old
starts_behind old mid new added h e =
    let size : length mid ≡ length old + length added = ap length e ∙ length-append old added in
    let le : length old ≤ length mid = omega (arith, size) in
    sym (take-take (length old) (length mid) new le)
    ∙ ap (take (length old)) (h ∙ e)
    ∙ take_at old added (length old) refl

pub three_written : (old a b new xs ys zs whole : List ℕ) → a ≡ old ++ xs → b ≡ a ++ ys → new ≡ b ++ zs → whole ≡ xs ++ (ys ++ zs) → new ≡ old ++ whole
three_written old a b new xs ys zs whole e f g h =
    g ∙ ap (λ (l : List ℕ). l ++ zs) (f ∙ ap (λ (l : List ℕ). l ++ ys) e)
    ∙ ap (λ (l : List ℕ). l ++ zs) (append_assoc old xs ys)
    ∙ append_assoc old (xs ++ ys) zs
    ∙ ap (λ (l : List ℕ). old ++ l) (append_assoc xs ys zs ∙ sym h)

pub two_behind : (old a b : List ℕ) (xs ys : List ℕ) → a ≡ old ++ xs → b ≡ a ++ ys → b ≡ old ++ (xs ++ ys)
two_behind old a b xs ys e f = f ∙ ap (λ (l : List ℕ). l ++ ys) e ∙ append_assoc old xs ys

pub on_err : {A E : Type 0} (r : Result A E) (P : Type 0) → P → OnErr r P
on_err (Ok x) P p = tt
on_err (Err e) P p = p

pub whole_is : {A : Type 0} (o : Option (A × List A)) (xs : List A) → MatchOption o (xs ≡ []) (λ found. xs ≡ found.0 ∷ found.1) → whole o ≡ xs
whole_is None xs h = sym h
whole_is (Some found) xs h = sym h
