-- What the definition of wire lines comes to: how a stream that grows is cut, and that it is cut in one way.
use Rattle.std.specs.Prelude.{All, if◌then◌else◌, ◌==◌, ◌&&◌}
use Rattle.std.proofs.Common.{◌≡◌, ℕ, ◌⊎◌, inl, inr, List, [], ◌∷◌, ◌++◌, drop, refl, sym, ◌∙◌, ap, arith, append_assoc, append-nil, Bool, true, false, subst}
use Rattle.std.proofs.lemmas.List.{same_from_push}
use Rattle.std.proofs.lemmas.List.Concat.{flat_map-append}
use Rattle.std.proofs.lemmas.List.Elements.{All-push, All-append, All-head, All-tail, All-cons, All-nil}
use Rattle.std.proofs.lemmas.Bool.{eqb-true, eq-eqb}
use Rattle.line_io.specs.Wire.{EndsInCr, IsUncut, IsCut, joined, crlf, begins_with_lf, Reading, put_first, wire_lines, wire_rest}

-- a list is empty, or has a last element
pub last_of : (xs : List ℕ) → (xs ≡ []) ⊎ ((ys : List ℕ) × (y : ℕ) × (xs ≡ ys ++ y ∷ []))
last_of [] = inl refl
last_of (x ∷ xs) = elim (last_of xs) [ inl e ↦ inr ([], x, ap (λ t. x ∷ t) e) | inr w ↦ inr (x ∷ w.0, w.1, ap (λ t. x ∷ t) w.2) ]

pub uncut_nil : IsUncut []
uncut_nil (front, back, e) = none front back e
  where
    none : (front back : List ℕ) → [] ≡ front ++ 13 ∷ 10 ∷ back → ⊥
    none [] back e = cc
    none (x ∷ front) back e = cc

pub uncut_front : (xs ys : List ℕ) → IsUncut (xs ++ ys) → IsUncut xs
uncut_front xs ys h (front, back, e) = h (front, back ++ ys, ap (λ t. t ++ ys) e ∙ append_assoc front (13 ∷ 10 ∷ back) ys)

-- one byte more is within the line, unless it is the LF of a CRLF
pub uncut_push : (rest : List ℕ) (byte : ℕ) → IsUncut rest → (byte ≡ 10 → EndsInCr rest → ⊥) → IsUncut (rest ++ byte ∷ [])
uncut_push rest byte h not_end (front, back, e) = elim (last_of back) [
  | inl n ↦ (let p : rest ++ byte ∷ [] ≡ (front ++ 13 ∷ []) ++ 10 ∷ [] = e ∙ ap (λ t. front ++ 13 ∷ 10 ∷ t) n
      ∙ sym (append_assoc front (13 ∷ []) (10 ∷ [])) in
      let s = same_from_push rest (front ++ 13 ∷ []) byte 10 p in not_end s.1 (front, s.0))
  | inr w ↦ (let p : rest ++ byte ∷ [] ≡ (front ++ 13 ∷ 10 ∷ w.0) ++ w.1 ∷ [] = e ∙ ap (λ t. front ++ 13 ∷ 10 ∷ t) w.2
      ∙ sym (append_assoc front (13 ∷ 10 ∷ w.0) (w.1 ∷ [])) in
      let s = same_from_push rest (front ++ 13 ∷ 10 ∷ w.0) byte w.1 p in h (front, w.0, s.0))
]

pub cut_none : IsCut [] [] []
cut_none = record { whole = refl; each = λ k d h. absurd (omega arith); open_end = uncut_nil }

-- a byte that ends no line
pub cut_more : (stream : List ℕ) (lines : List (List ℕ)) (rest : List ℕ) (byte : ℕ) → IsCut stream lines rest →
    (byte ≡ 10 → EndsInCr rest → ⊥) → IsCut (stream ++ byte ∷ []) lines (rest ++ byte ∷ [])
cut_more stream lines rest byte h not_end = record {
  whole = ap (λ t. t ++ byte ∷ []) h.whole ∙ append_assoc (joined lines) rest (byte ∷ []);
  each = h.each;
  open_end = uncut_push rest byte h.open_end not_end;
}

-- the LF that ends a line
pub cut_end : (stream : List ℕ) (lines : List (List ℕ)) (rest line : List ℕ) → IsCut stream lines rest →
    rest ≡ line ++ 13 ∷ [] → IsCut (stream ++ 10 ∷ []) (lines ++ line ∷ []) []
cut_end stream lines rest line h e = record {
  whole = ap (λ t. t ++ 10 ∷ []) h.whole
      ∙ ap (λ t. (joined lines ++ t) ++ 10 ∷ []) e
      ∙ append_assoc (joined lines) (line ++ 13 ∷ []) (10 ∷ [])
      ∙ ap (λ t. joined lines ++ t) (append_assoc line (13 ∷ []) (10 ∷ []))
      ∙ sym (append-nil (joined lines ++ (line ++ crlf)))
      ∙ ap (λ t. t ++ []) (ap (λ t. joined lines ++ t) (sym (append-nil (line ++ crlf))) ∙ sym (flat_map-append (λ l. l ++ crlf) lines (line ∷ [])));
  each = All-push IsUncut lines line h.each (uncut_front line (13 ∷ []) (let P : List ℕ → Type 0 = IsUncut in rw e at h.open_end));
  open_end = uncut_nil;
}

-- two streams in a row, the first of which ends with a line
pub cut_join : (s t : List ℕ) (ls ms : List (List ℕ)) (rest : List ℕ) → IsCut s ls [] → IsCut t ms rest → IsCut (s ++ t) (ls ++ ms) rest
cut_join s t ls ms rest h k = record {
  whole =
      ap (λ u. u ++ t) (h.whole
      ∙ append-nil (joined ls))
      ∙ ap (λ u. joined ls ++ u) k.whole
      ∙ sym (append_assoc (joined ls) (joined ms) rest)
      ∙ ap (λ u. u ++ rest) (sym (flat_map-append (λ l. l ++ crlf) ls ms));
  each = All-append IsUncut ls ms h.each k.each;
  open_end = k.open_end;
}

uncut_tail : (x : ℕ) (xs : List ℕ) → IsUncut (x ∷ xs) → IsUncut xs
uncut_tail x xs h (front, back, e) = h (x ∷ front, back, ap (λ t. x ∷ t) e)

-- a byte before bytes within a line, unless it is the CR of a CRLF
pub uncut_cons : (x : ℕ) (xs : List ℕ) → IsUncut xs → (x ≡ 13 → begins_with_lf xs ≡ true → ⊥) → IsUncut (x ∷ xs)
uncut_cons x xs h not_cr (front, back, e) = cases front back e
  where
    cases : (front back : List ℕ) → x ∷ xs ≡ front ++ 13 ∷ 10 ∷ back → ⊥
    cases [] back e = let a : x ≡ 13 = cc in let b : xs ≡ 10 ∷ back = cc in not_cr a (rw b refl)
    cases (y ∷ front) back e = let b : xs ≡ front ++ 13 ∷ 10 ∷ back = cc in h (front, back, b)

begins : (xs : List ℕ) → begins_with_lf xs ≡ true → xs ≡ 10 ∷ drop 1 xs
begins [] t = absurd (let e : false ≡ true = t in cc)
begins (x ∷ xs) t = ap (λ n. n ∷ xs) (eqb-true x 10 t)

and_true : (p q : Bool) → (p && q) ≡ true → (p ≡ true) × (q ≡ true)
and_true true q e = (refl, e)
and_true false q e = absurd (let n : false ≡ true = e in cc)

and_false : (p q : Bool) → (p && q) ≡ false → p ≡ true → q ≡ true → ⊥
and_false true q e a b = let n : false ≡ true = sym e ∙ b in cc
and_false false q e a b = let n : false ≡ true = a in cc

abbrev Reads : List ℕ → Reading → Type 0
Reads stream r = IsCut stream r.lines r.rest

put_rest : (x : ℕ) (rest xs : List ℕ) → IsCut xs [] rest → (b : Bool) → ((x == 13) && begins_with_lf rest) ≡ b →
    Reads (x ∷ xs) (if b then record { lines = [] ∷ []; rest = drop 1 rest } else record { lines = []; rest = x ∷ rest })
put_rest x rest xs h true e =
    let t = and_true (x == 13) (begins_with_lf rest) e in
    let r : rest ≡ 10 ∷ drop 1 rest = begins rest t.1 in
    record {
      whole = ap (λ n. n ∷ xs) (eqb-true x 13 t.0) ∙ ap (λ t. 13 ∷ t) (h.whole ∙ r);
      each = All-cons IsUncut [] [] uncut_nil (All-nil IsUncut);
      open_end = uncut_tail 10 (drop 1 rest) (let P : List ℕ → Type 0 = IsUncut in subst P r h.open_end);
    }
put_rest x rest xs h false e = record {
  whole = ap (λ t. x ∷ t) h.whole;
  each = h.each;
  open_end = uncut_cons x rest h.open_end (λ a b. and_false (x == 13) (begins_with_lf rest) e (eq-eqb x 13 a) b);
}

put_line : (x : ℕ) (l : List ℕ) (ls : List (List ℕ)) (rest xs : List ℕ) → IsCut xs (l ∷ ls) rest → (b : Bool) → ((x == 13) && begins_with_lf l) ≡ b →
    Reads (x ∷ xs) (if b then record { lines = [] ∷ drop 1 l ∷ ls; rest = rest } else record { lines = (x ∷ l) ∷ ls; rest = rest })
put_line x l ls rest xs h true e =
    let t = and_true (x == 13) (begins_with_lf l) e in
    let r : l ≡ 10 ∷ drop 1 l = begins l t.1 in
    record {
      whole = ap (λ n. n ∷ xs) (eqb-true x 13 t.0) ∙ ap (λ t. 13 ∷ t) (h.whole ∙ ap (λ u. (u ++ crlf) ++ joined ls ++ rest) r);
      each = All-cons IsUncut [] (drop 1 l ∷ ls) uncut_nil (All-cons IsUncut (drop 1 l) ls
          (uncut_tail 10 (drop 1 l) (let P : List ℕ → Type 0 = IsUncut in subst P r (All-head IsUncut l ls h.each))) (All-tail IsUncut l ls h.each));
      open_end = h.open_end;
    }
put_line x l ls rest xs h false e = record {
  whole = ap (λ t. x ∷ t) h.whole;
  each = All-cons IsUncut (x ∷ l) ls (uncut_cons x l (All-head IsUncut l ls h.each)
      (λ a b. and_false (x == 13) (begins_with_lf l) e (eq-eqb x 13 a) b)) (All-tail IsUncut l ls h.each);
  open_end = h.open_end;
}

put_cut : (x : ℕ) (lines : List (List ℕ)) (rest xs : List ℕ) → IsCut xs lines rest
    → IsCut (x ∷ xs) (put_first x lines rest).lines (put_first x lines rest).rest
put_cut x [] rest xs h = put_rest x rest xs h _ refl
put_cut x (l ∷ ls) rest xs h = put_line x l ls rest xs h _ refl

-- each stream is cut into its lines and its rest
pub reading_cut : (stream : List ℕ) → IsCut stream (wire_lines stream) (wire_rest stream)
reading_cut [] = cut_none
reading_cut (x ∷ xs) = put_cut x (wire_lines xs) (wire_rest xs) xs (reading_cut xs)

-- the first line is one
first_same : (a b s t : List ℕ) → IsUncut a → IsUncut b → a ++ 13 ∷ 10 ∷ s ≡ b ++ 13 ∷ 10 ∷ t → (a ≡ b) × (s ≡ t)
first_same [] [] s t h k e = (refl, let r : s ≡ t = cc in r)
first_same [] (y ∷ []) s t h k e = absurd (let r : ◌≡◌ {A = ℕ} 10 13 = cc in omega arith)
first_same [] (y ∷ z ∷ b) s t h k e = absurd (k ([], b, let p : y ∷ z ∷ b ≡ 13 ∷ 10 ∷ b = cc in p))
first_same (x ∷ []) [] s t h k e = absurd (let r : ◌≡◌ {A = ℕ} 10 13 = cc in omega arith)
first_same (x ∷ z ∷ a) [] s t h k e = absurd (h ([], a, let p : x ∷ z ∷ a ≡ 13 ∷ 10 ∷ a = cc in p))
first_same (x ∷ a) (y ∷ b) s t h k e =
    let p : a ++ 13 ∷ 10 ∷ s ≡ b ++ 13 ∷ 10 ∷ t = cc in
    let q : x ≡ y = cc in
    let r = first_same a b s t (uncut_tail x a h) (uncut_tail y b k) p in
    (let d : x ∷ a ≡ y ∷ b = cc in d, r.1)

-- a stream is cut in one way
pub cut_same : (stream : List ℕ) (ls ms : List (List ℕ)) (r s : List ℕ) → IsCut stream ls r → IsCut stream ms s → (ls ≡ ms) × (r ≡ s)
cut_same stream [] [] r s h k = (refl, sym h.whole ∙ k.whole)
cut_same stream [] (m ∷ ms) r s h k = absurd (h.open_end (m, joined ms ++ s, sym h.whole ∙ k.whole ∙ first m ms s))
  where
    first : (l : List ℕ) (ls : List (List ℕ)) (r : List ℕ) → joined (l ∷ ls) ++ r ≡ l ++ 13 ∷ 10 ∷ (joined ls ++ r)
    first l ls r = append_assoc (l ++ crlf) (joined ls) r ∙ append_assoc l crlf (joined ls ++ r)
cut_same stream (l ∷ ls) [] r s h k = absurd (k.open_end (l, joined ls ++ r, sym k.whole ∙ h.whole ∙ first l ls r))
  where
    first : (l : List ℕ) (ls : List (List ℕ)) (r : List ℕ) → joined (l ∷ ls) ++ r ≡ l ++ 13 ∷ 10 ∷ (joined ls ++ r)
    first l ls r = append_assoc (l ++ crlf) (joined ls) r ∙ append_assoc l crlf (joined ls ++ r)
cut_same stream (l ∷ ls) (m ∷ ms) r s h k =
    let e : l ++ 13 ∷ 10 ∷ (joined ls ++ r) ≡ m ++ 13 ∷ 10 ∷ (joined ms ++ s) = sym (first l ls r) ∙ sym h.whole ∙ k.whole ∙ first m ms s in
    let f = first_same l m _ _ (All-head IsUncut l ls h.each) (All-head IsUncut m ms k.each) e in
    let g = cut_same (joined ls ++ r) ls ms r s
    (record { whole = refl; each = All-tail IsUncut l ls h.each; open_end = h.open_end })
    (record { whole = f.1; each = All-tail IsUncut m ms k.each; open_end = k.open_end }) in
    (let d : l ∷ ls ≡ m ∷ ms = cc (f.0, g.0) in d, g.1)
  where
    first : (l : List ℕ) (ls : List (List ℕ)) (r : List ℕ) → joined (l ∷ ls) ++ r ≡ l ++ 13 ∷ 10 ∷ (joined ls ++ r)
    first l ls r = append_assoc (l ++ crlf) (joined ls) r ∙ append_assoc l crlf (joined ls ++ r)

-- so these are the stream's
pub lines_are : (stream : List ℕ) (lines : List (List ℕ)) (rest : List ℕ) → IsCut stream lines rest → (wire_lines stream ≡ lines)
    × (wire_rest stream ≡ rest)
lines_are stream lines rest h = cut_same stream _ _ _ _ (reading_cut stream) h

-- a byte more that ends no line
pub wire_more : (stream : List ℕ) (byte : ℕ) → (byte ≡ 10 → EndsInCr (wire_rest stream) → ⊥) →
    (wire_lines (stream ++ byte ∷ []) ≡ wire_lines stream) × (wire_rest (stream ++ byte ∷ []) ≡ wire_rest stream ++ byte ∷ [])
wire_more stream byte not_end = lines_are _ _ _ (cut_more stream _ _ byte (reading_cut stream) not_end)

-- the LF that ends a line
pub wire_end : (stream line : List ℕ) → wire_rest stream ≡ line ++ 13 ∷ [] →
    (wire_lines (stream ++ 10 ∷ []) ≡ wire_lines stream ++ line ∷ []) × (wire_rest (stream ++ 10 ∷ []) ≡ [])
wire_end stream line e = lines_are _ _ _ (cut_end stream _ _ line (reading_cut stream) e)

-- two streams in a row, the first of which ends with a line
pub wire_join : (s t : List ℕ) → wire_rest s ≡ [] → (wire_lines (s ++ t) ≡ wire_lines s ++ wire_lines t) × (wire_rest (s ++ t) ≡ wire_rest t)
wire_join s t e = lines_are _ _ _ (cut_join s t _ _ _ (subst (λ (r : List ℕ). IsCut s (wire_lines s) r) e (reading_cut s)) (reading_cut t))

-- lines in a row
pub wire_joined : (lines : List (List ℕ)) → All IsUncut lines → (wire_lines (joined lines) ≡ lines) × (wire_rest (joined lines) ≡ [])
wire_joined lines each = lines_are _ _ _ (record { whole = sym (append-nil (joined lines)); each = each; open_end = uncut_nil })
