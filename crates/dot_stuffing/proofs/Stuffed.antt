-- A text with its dots, and the text that comes back from it.
use Rattle.std.proofs.Common.{◌≡◌, ◌≢◌, ℕ, ◌⊎◌, inl, inr, List, [], ◌∷◌, ◌++◌, length, map, refl, sym, ◌∙◌, ap, arith, append_assoc, append-nil, Bool, true, false, subst, get_or}
use Rattle.std.specs.Prelude.{All, if◌then◌else◌, ◌==◌}
use Rattle.std.proofs.lemmas.List.{same_from_push, map-append, append_cancel_right, get_or_at, length_push, length-append}
use Rattle.std.proofs.lemmas.List.Concat.{flat_map-append}
use Rattle.std.proofs.lemmas.List.Elements.{All-push, All-map, All-weaker}
use Rattle.std.proofs.lemmas.Bool.{eqb-true, eq-eqb}
use Rattle.line_io.specs.Wire.{EndsInCr, IsUncut, crlf, joined, wire_lines, wire_rest}
use Rattle.line_io.specs.inner.WireLaws.{wire_more, wire_end, wire_join, wire_joined, reading_cut, uncut_cons, uncut_nil}
use Rattle.dot_stuffing.specs.Data.{dot, dotted, undotted, stuffed, EndsWhole, IsOpen, Plain}

-- nothing comes after the last CRLF
pub rest_whole : (text : List ℕ) → EndsWhole text → wire_rest text ≡ []
rest_whole text (inl e) = ap wire_rest e
rest_whole text (inr w) =
    let a = wire_more w.0 13 (λ e _. omega arith) in
    let b = wire_end (w.0 ++ 13 ∷ []) (wire_rest w.0) a.1 in
    ap wire_rest (w.1 ∙ sym (append_assoc w.0 (13 ∷ []) (10 ∷ []))) ∙ b.1

undotted-dotted : (line : List ℕ) → undotted (dotted line) ≡ line
undotted-dotted [] = refl
undotted-dotted (x ∷ xs) = cases (x == 46) refl
  where
    cases : (b : Bool) → (x == 46) ≡ b → undotted (if b then 46 ∷ x ∷ xs else x ∷ xs) ≡ x ∷ xs
    cases true e = refl
    cases false e = rw e refl

all_back : (lines : List (List ℕ)) → map undotted (map dotted lines) ≡ lines
all_back [] = refl
all_back (l ∷ ls) = ap (λ t. t ∷ map undotted (map dotted ls)) (undotted-dotted l) ∙ ap (λ t. l ∷ t) (all_back ls)

uncut_dotted : (line : List ℕ) → IsUncut line → IsUncut (dotted line)
uncut_dotted [] h = h
uncut_dotted (x ∷ xs) h = cases (x == 46)
  where
    cases : (b : Bool) → IsUncut (if b then 46 ∷ x ∷ xs else x ∷ xs)
    cases true = uncut_cons 46 (x ∷ xs) h (λ e _. omega (arith, e))
    cases false = h

dotted_not_dot : (line : List ℕ) → dotted line ≢ dot
dotted_not_dot [] e = cc
dotted_not_dot (x ∷ xs) e = cases (x == 46) refl e
  where
    cases : (b : Bool) → (x == 46) ≡ b → (if b then 46 ∷ x ∷ xs else x ∷ xs) ≡ 46 ∷ [] → ⊥
    cases true t h = cc
    cases false t h = let n : x ≡ 46 = cc in let f : false ≡ true = sym t ∙ eq-eqb x 46 n in cc

uncut_dot : IsUncut dot
uncut_dot = uncut_cons 46 [] uncut_nil (λ e _. omega (arith, e))

pub plain_stuffed : (text : List ℕ) → EndsWhole text → Plain (stuffed text ++ (dot ++ crlf)) text
plain_stuffed text h =
    let r : wire_rest text ≡ [] = rest_whole text h in
    let d : List (List ℕ) = map dotted (wire_lines text) in
    let cut = reading_cut text in
    let s : stuffed text ≡ joined d = ap (λ t. joined d ++ dotted t) r ∙ append-nil (joined d) in
    let w : stuffed text ++ (dot ++ crlf) ≡ joined (d ++ dot ∷ []) = ap (λ t. t ++ (dot ++ crlf)) s ∙ sym (flat_map-append (λ l. l ++ crlf) d (dot ∷ [])) in
    let each : All IsUncut (d ++ dot ∷ []) = All-push IsUncut d dot (All-map IsUncut dotted (wire_lines text) (All-weaker IsUncut (λ l. IsUncut (dotted l)) uncut_dotted (wire_lines text) cut.each)) uncut_dot in
    let j = wire_joined (d ++ dot ∷ []) each in
    record {
      lines = d;
      wire_is = ap wire_lines w ∙ j.0;
      ended = ap wire_rest w ∙ j.1;
      none_dot = All-map (λ l. l ≢ dot) dotted (wire_lines text) (All-weaker IsUncut (λ l. dotted l ≢ dot) (λ l _. dotted_not_dot l) (wire_lines text) cut.each);
      text_is = cut.whole ∙ ap (λ t. joined (wire_lines text) ++ t) r ∙ append-nil (joined (wire_lines text)) ∙ ap joined (sym (all_back (wire_lines text)));
    }

pub plain_same : (wire text other : List ℕ) → Plain wire text → Plain wire other → text ≡ other
plain_same wire text other p q =
    p.text_is ∙ ap (λ ls. joined (map undotted ls)) (append_cancel_right p.lines q.lines (dot ∷ []) (sym p.wire_is ∙ q.wire_is)) ∙ sym q.text_is

-- a list with an element within it has no fact against that element
no_dot_within : (lines more : List (List ℕ)) → All (λ line. line ≢ dot) ((lines ++ dot ∷ []) ++ more) → ⊥
no_dot_within lines more h =
    h (length lines) dot (omega (arith, length-append (lines ++ dot ∷ []) more, length_push lines dot))
    (ap (λ t. get_or t (length lines) dot) (append_assoc lines (dot ∷ []) more) ∙ get_or_at lines dot more dot (length lines) refl)

pub open_not_plain : (wire rest text : List ℕ) → IsOpen (wire ++ rest) → Plain wire text → ⊥
open_not_plain wire rest text h p =
    no_dot_within p.lines (wire_lines rest)
    (subst (λ (ls : List (List ℕ)). All (λ line. line ≢ dot) ls) ((wire_join wire rest p.ended).0 ∙ ap (λ t. t ++ wire_lines rest) p.wire_is) h)

last_line : (xs : List (List ℕ)) → (xs ≡ []) ⊎ ((ys : List (List ℕ)) × (y : List ℕ) × (xs ≡ ys ++ y ∷ []))
last_line [] = inl refl
last_line (x ∷ xs) = elim (last_line xs) [ inl e ↦ inr ([], x, ap (λ t. x ∷ t) e) | inr w ↦ inr (x ∷ w.0, w.1, ap (λ t. x ∷ t) w.2) ]

pub plain_once : (wire rest text other : List ℕ) → Plain wire text → Plain (wire ++ rest) other → rest ≡ []
plain_once wire rest text other p q =
    let j = wire_join wire rest p.ended in
    let none : wire_rest rest ≡ [] = sym j.1 ∙ q.ended in
    let lines : (p.lines ++ dot ∷ []) ++ wire_lines rest ≡ q.lines ++ dot ∷ [] = sym (ap (λ t. t ++ wire_lines rest) p.wire_is) ∙ sym j.0 ∙ q.wire_is in
    elim (last_line (wire_lines rest)) [
      | inl e ↦ ((reading_cut rest).whole ∙ ap (λ t. joined (wire_lines rest) ++ t) none ∙ append-nil (joined (wire_lines rest)) ∙ ap joined e)
      | inr w ↦ absurd (no_dot_within p.lines w.0 (subst (λ (ls : List (List ℕ)). All (λ line. line ≢ dot) ls)
          (sym (same_from_push ((p.lines ++ dot ∷ []) ++ w.0) q.lines w.1 dot
          (append_assoc (p.lines ++ dot ∷ []) w.0 (w.1 ∷ []) ∙ ap (λ t. (p.lines ++ dot ∷ []) ++ t) (sym w.2) ∙ lines)).0) q.none_dot))
    ]

push_not_nil : (rest : List ℕ) (byte : ℕ) → rest ++ byte ∷ [] ≢ []
push_not_nil [] byte e = cc
push_not_nil (x ∷ rest) byte e = cc

dotted_push : (rest : List ℕ) (byte : ℕ) → rest ≢ [] → dotted (rest ++ byte ∷ []) ≡ dotted rest ++ byte ∷ []
dotted_push [] byte n = absurd (n refl)
dotted_push (x ∷ rest) byte n = cases (x == 46)
  where
    cases : (b : Bool) → (if b then 46 ∷ x ∷ (rest ++ byte ∷ []) else x ∷ (rest ++ byte ∷ [])) ≡ (if b then 46 ∷ x ∷ rest else x ∷ rest) ++ byte ∷ []
    cases true = refl
    cases false = refl

-- where a writer of dots stands in its line
pub record Stands (text : List ℕ) (at_start after_cr : Bool) : Type 0 where
  pub start : at_start ≡ true → wire_rest text ≡ []
  pub not_start : at_start ≡ false → wire_rest text ≢ []
  pub cr : after_cr ≡ true → EndsInCr (wire_rest text)
  pub not_cr : after_cr ≡ false → EndsInCr (wire_rest text) → ⊥

nil_no_cr : EndsInCr [] → ⊥
nil_no_cr (front, e) = push_not_nil front 13 (sym e)

decide : (b : Bool) → (b ≡ true) ⊎ (b ≡ false)
decide true = inl refl
decide false = inr refl

never : {A : Type 0} → (b : Bool) → b ≡ true → b ≡ false → A
never b t f = absurd (let e : true ≡ false = sym t ∙ f in cc)

-- the next byte, and where it leaves the writer
pub stands_next : (text : List ℕ) (s cr s' cr' : Bool) (byte : ℕ) → Stands text s cr →
    (s' ≡ true → (byte ≡ 10) × (cr ≡ true)) → (s' ≡ false → byte ≡ 10 → cr ≡ true → ⊥) →
    (cr' ≡ true → byte ≡ 13) → (cr' ≡ false → byte ≡ 13 → ⊥) →
    Stands (text ++ byte ∷ []) s' cr'
stands_next text s cr true cr' byte h t f c d =
    let w = h.cr (t refl).1 in
    let r : wire_rest (text ++ byte ∷ []) ≡ [] = subst (λ (n : ℕ). wire_rest (text ++ n ∷ []) ≡ []) (sym (t refl).0) (wire_end text w.0 w.1).1 in
    record {
      start = λ _. r;
      not_start = λ e. absurd (let n : true ≡ false = e in cc);
      cr = λ e. absurd (let n : byte ≡ 13 = c e in let m : byte ≡ 10 = (t refl).0 in omega arith);
      not_cr = λ _ e. nil_no_cr (subst EndsInCr r e);
    }
stands_next text s cr false cr' byte h t f c d =
    let r = (wire_more text byte (λ b e. elim (decide cr) [ inl y ↦ f refl b y | inr n ↦ h.not_cr n e ])).1 in
    record {
      start = λ e. absurd (let n : false ≡ true = e in cc);
      not_start = λ _ e. push_not_nil (wire_rest text) byte (sym r ∙ e);
      cr = λ e. (wire_rest text, r ∙ ap (λ b. wire_rest text ++ b ∷ []) (c e));
      not_cr = λ e w. d e (same_from_push (wire_rest text) w.0 byte 13 (sym r ∙ w.1)).1;
    }

-- what a line that goes on adds
within_line : (text added : List ℕ) (byte : ℕ) → (byte ≡ 10 → EndsInCr (wire_rest text) → ⊥) → dotted (wire_rest text ++ byte ∷ []) ≡ dotted (wire_rest text) ++ added → stuffed (text ++ byte ∷ []) ≡ stuffed text ++ added
within_line text added byte not_end e =
    let g = wire_more text byte not_end in
    ap (λ ls. joined (map dotted ls) ++ dotted (wire_rest (text ++ byte ∷ []))) g.0
    ∙ ap (λ r. joined (map dotted (wire_lines text)) ++ dotted r) g.1
    ∙ ap (λ t. joined (map dotted (wire_lines text)) ++ t) e
    ∙ sym (append_assoc (joined (map dotted (wire_lines text))) (dotted (wire_rest text)) added)

pub dot_at_start : (text : List ℕ) (s cr : Bool) (byte : ℕ) → Stands text s cr → s ≡ true → byte ≡ 46 → stuffed (text ++ byte ∷ []) ≡ (stuffed text ++ 46 ∷ []) ++ byte ∷ []
dot_at_start text s cr byte h t b =
    let r : wire_rest text ≡ [] = h.start t in
    within_line text (46 ∷ byte ∷ []) byte (λ e _. omega arith)
    (ap (λ u. dotted (u ++ byte ∷ [])) r ∙ ap (λ n. dotted (n ∷ [])) b ∙ ap (λ n. 46 ∷ n ∷ []) (sym b) ∙ ap (λ u. dotted u ++ 46 ∷ byte ∷ []) (sym r))
    ∙ sym (append_assoc (stuffed text) (46 ∷ []) (byte ∷ []))

dotted_cr : (l : List ℕ) → dotted (l ++ 13 ∷ []) ≡ dotted l ++ 13 ∷ []
dotted_cr [] = refl
dotted_cr (x ∷ l) = dotted_push (x ∷ l) 13 (λ n. cc)

lf_after_cr : (text line : List ℕ) → wire_rest text ≡ line ++ 13 ∷ [] → stuffed (text ++ 10 ∷ []) ≡ stuffed text ++ 10 ∷ []
lf_after_cr text line e =
    let g = wire_end text line e in
    let j : List ℕ = joined (map dotted (wire_lines text)) in
    let u : List ℕ = dotted line in
    ap (λ ls. joined (map dotted ls) ++ dotted (wire_rest (text ++ 10 ∷ []))) g.0
    ∙ ap (λ r. joined (map dotted (wire_lines text ++ line ∷ [])) ++ dotted r) g.1
    ∙ append-nil (joined (map dotted (wire_lines text ++ line ∷ [])))
    ∙ ap joined (map-append dotted (wire_lines text) (line ∷ []))
    ∙ flat_map-append (λ l. l ++ crlf) (map dotted (wire_lines text)) (u ∷ [])
    ∙ ap (λ t. j ++ t) (append-nil (u ++ crlf))
    ∙ sym (ap (λ t. (j ++ dotted t) ++ 10 ∷ []) e
    ∙ ap (λ t. (j ++ t) ++ 10 ∷ []) (dotted_cr line)
    ∙ append_assoc j (u ++ 13 ∷ []) (10 ∷ [])
    ∙ ap (λ t. j ++ t) (append_assoc u (13 ∷ []) (10 ∷ [])))

pub other_byte : (text : List ℕ) (s cr : Bool) (byte : ℕ) → Stands text s cr → (s ≡ true → byte ≡ 46 → ⊥) → stuffed (text ++ byte ∷ []) ≡ stuffed text ++ byte ∷ []
other_byte text s cr byte h n = ends (decide cr) (decide (byte == 10))
  where
    goes_on : (byte ≡ 10 → EndsInCr (wire_rest text) → ⊥) → stuffed (text ++ byte ∷ []) ≡ stuffed text ++ byte ∷ []
    goes_on not_end = within_line text (byte ∷ []) byte not_end (elim (decide s) [
      | inl t ↦ (ap (λ u. dotted (u ++ byte ∷ [])) (h.start t) ∙ single (byte == 46) refl (n t) ∙ ap (λ u. dotted u ++ byte ∷ []) (sym (h.start t)))
      | inr f ↦ dotted_push (wire_rest text) byte (h.not_start f)
    ])
      where
        single : (b : Bool) → (byte == 46) ≡ b → (byte ≡ 46 → ⊥) → (if b then 46 ∷ byte ∷ [] else byte ∷ []) ≡ byte ∷ []
        single true e m = absurd (m (eqb-true byte 46 e))
        single false e m = refl

    ends : (cr ≡ true) ⊎ (cr ≡ false) → ((byte == 10) ≡ true) ⊎ ((byte == 10) ≡ false) → stuffed (text ++ byte ∷ []) ≡ stuffed text ++ byte ∷ []
    ends (inl c) (inl b) = let w = h.cr c in subst (λ (m : ℕ). stuffed (text ++ m ∷ []) ≡ stuffed text ++ m ∷ []) (sym (eqb-true byte 10 b)) (lf_after_cr text w.0 w.1)
    ends (inl c) (inr b) = goes_on (λ e _. never (byte == 10) (eq-eqb byte 10 e) b)
    ends (inr c) b = goes_on (λ _ e. h.not_cr c e)

-- one byte more, with the dot that it wants
pub next_byte : (text : List ℕ) (s cr d : Bool) (byte : ℕ) → Stands text s cr →
    (d ≡ true → (s ≡ true) × (byte ≡ 46)) → (d ≡ false → s ≡ true → byte ≡ 46 → ⊥) →
    stuffed (text ++ byte ∷ []) ≡ stuffed text ++ (if d then 46 ∷ byte ∷ [] else byte ∷ [])
next_byte text s cr true byte h t f = dot_at_start text s cr byte h (t refl).0 (t refl).1 ∙ append_assoc (stuffed text) (46 ∷ []) (byte ∷ [])
next_byte text s cr false byte h t f = other_byte text s cr byte h (f refl)
