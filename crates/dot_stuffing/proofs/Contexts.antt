-- What a byte more does, in each context.
use Rattle.std.proofs.Common.{◌≡◌, ◌≢◌, ℕ, List, [], ◌∷◌, ◌++◌, map, refl, sym, ◌∙◌, ap, arith, append_assoc, append-nil, Bool, true, false, subst}
use Rattle.std.specs.Prelude.{All, if◌then◌else◌, ◌==◌}
use Rattle.std.proofs.lemmas.List.{same_from_push, map-append}
use Rattle.std.proofs.lemmas.List.Concat.{flat_map-append}
use Rattle.std.proofs.lemmas.List.Elements.{All-push}
use Rattle.std.proofs.lemmas.Bool.{eqb-true, eq-eqb}
use Rattle.line_io.specs.Wire.{EndsInCr, crlf, joined, wire_lines, wire_rest}
use Rattle.line_io.specs.inner.WireLaws.{wire_more, wire_end}
use Rattle.dot_stuffing.specs.Data.{dot, undotted, Plain}
use Rattle.dot_stuffing.specs.Unstuffing.{IsAt, known, text_so_far, IsOpenAt}
use Rattle.dot_stuffing.specs.inner.Unstuffing.{after}
use Rattle.dot_stuffing.specs.declared.context.Context.{Context}
use Rattle.dot_stuffing.specs.declared.context.Context.TheVariants.{Start, Dot, DotCr, Inside, Cr}

-- a byte that ends no line
pub more : (context next : Context) (byte : ℕ) (wire added : List ℕ) → IsOpenAt context wire → (byte ≡ 10 → EndsInCr (wire_rest wire) → ⊥) →
    IsAt next (wire_rest wire ++ byte ∷ []) → known next (wire_rest wire ++ byte ∷ []) ≡ known context (wire_rest wire) ++ added →
    IsOpenAt next (wire ++ byte ∷ []) × (text_so_far next (wire ++ byte ∷ []) ≡ text_so_far context wire ++ added)
more context next byte wire added h not_end at text =
    let g = wire_more wire byte not_end in (
      record {
        is_open = subst (λ (ls : List (List ℕ)). All (λ line. line ≢ dot) ls) (sym g.0) h.is_open;
        at = subst (λ (r : List ℕ). IsAt next r) (sym g.1) at;
      },
      ap (λ ls. joined (map undotted ls) ++ known next (wire_rest (wire ++ byte ∷ []))) g.0
          ∙ ap (λ r. joined (map undotted (wire_lines wire)) ++ known next r) g.1
          ∙ ap (λ t. joined (map undotted (wire_lines wire)) ++ t) text
          ∙ sym (append_assoc (joined (map undotted (wire_lines wire))) (known context (wire_rest wire)) added),
    )

undotted_push : (rest : List ℕ) (byte : ℕ) → rest ≢ [] → undotted (rest ++ byte ∷ []) ≡ undotted rest ++ byte ∷ []
undotted_push [] byte n = absurd (n refl)
undotted_push (x ∷ rest) byte n = at-first (x == 46)
  where
    at-first : (b : Bool) → (if b then rest ++ byte ∷ [] else x ∷ (rest ++ byte ∷ [])) ≡ (if b then rest else x ∷ rest) ++ byte ∷ []
    at-first true = refl
    at-first false = refl

push_not_nil : (rest : List ℕ) (byte : ℕ) → rest ++ byte ∷ [] ≢ []
push_not_nil [] byte e = cc
push_not_nil (x ∷ rest) byte e = cc

nil_no_cr : EndsInCr [] → ⊥
nil_no_cr (front, e) = push_not_nil front 13 (sym e)

dot_no_cr : EndsInCr (46 ∷ []) → ⊥
dot_no_cr (front, e) = let h : ◌≡◌ {A = ℕ} 46 13 = (same_from_push [] front 46 13 e).1 in omega (arith, h)

after_at : (b : Bool) (rest : List ℕ) (byte : ℕ) → (byte == 13) ≡ b → rest ++ byte ∷ [] ≢ 46 ∷ [] → rest ++ byte ∷ [] ≢ 46 ∷ 13 ∷ [] → IsAt (if b then Cr else Inside) (rest ++ byte ∷ [])
after_at true rest byte e n m = (m, (rest, ap (λ t. rest ++ t ∷ []) (eqb-true byte 13 e)))
after_at false rest byte e n m = (push_not_nil rest byte, n, λ w. let h : false ≡ true = sym e ∙ eq-eqb byte 13 (same_from_push rest w.0 byte 13 w.1).1 in cc)

after_known : (b : Bool) (rest : List ℕ) → known (if b then Cr else Inside) rest ≡ undotted rest
after_known true rest = refl
after_known false rest = refl

-- a byte of the text
pub adds : (context : Context) (byte : ℕ) (wire added : List ℕ) → IsOpenAt context wire → (byte ≡ 10 → EndsInCr (wire_rest wire) → ⊥) →
    wire_rest wire ++ byte ∷ [] ≢ 46 ∷ [] → wire_rest wire ++ byte ∷ [] ≢ 46 ∷ 13 ∷ [] →
    undotted (wire_rest wire ++ byte ∷ []) ≡ known context (wire_rest wire) ++ added →
    IsOpenAt (after byte) (wire ++ byte ∷ []) × (text_so_far (after byte) (wire ++ byte ∷ []) ≡ text_so_far context wire ++ added)
adds context byte wire added h not_end n m text = more context (after byte) byte wire added h not_end (after_at (byte == 13) (wire_rest wire) byte refl n m) (after_known (byte == 13) (wire_rest wire ++ byte ∷ []) ∙ text)

pub start_dot : (byte : ℕ) (wire : List ℕ) → byte ≡ 46 → IsOpenAt Start wire → IsOpenAt Dot (wire ++ byte ∷ []) × (text_so_far Dot (wire ++ byte ∷ []) ≡ text_so_far Start wire)
start_dot byte wire b h =
    let r : wire_rest wire ++ byte ∷ [] ≡ 46 ∷ [] = ap (λ t. t ++ byte ∷ []) h.at ∙ ap (λ t. t ∷ []) b in
    let m = more Start Dot byte wire [] h (λ e _. omega arith) r (ap undotted r ∙ sym (append-nil (known Start (wire_rest wire)) ∙ ap undotted h.at)) in
    (m.0, m.1 ∙ append-nil (text_so_far Start wire))

pub start_byte : (byte : ℕ) (wire : List ℕ) → (byte ≡ 46 → ⊥) → IsOpenAt Start wire → IsOpenAt (after byte) (wire ++ byte ∷ []) × (text_so_far (after byte) (wire ++ byte ∷ []) ≡ text_so_far Start wire ++ byte ∷ [])
start_byte byte wire n h =
    adds Start byte wire (byte ∷ []) h (λ _ w. nil_no_cr (subst EndsInCr h.at w))
    (λ e. n (same_from_push (wire_rest wire) [] byte 46 e).1)
    (λ e. let w : [] ≡ 46 ∷ [] = sym h.at ∙ (same_from_push (wire_rest wire) (46 ∷ []) byte 13 e).0 in cc)
    (ap (λ t. undotted (t ++ byte ∷ [])) h.at ∙ one (byte == 46) refl ∙ ap (λ t. undotted t ++ byte ∷ []) (sym h.at))
  where
    one : (b : Bool) → (byte == 46) ≡ b → (if b then [] else byte ∷ []) ≡ byte ∷ []
    one true e = absurd (n (eqb-true byte 46 e))
    one false e = refl

pub dot_cr : (byte : ℕ) (wire : List ℕ) → byte ≡ 13 → IsOpenAt Dot wire → IsOpenAt DotCr (wire ++ byte ∷ []) × (text_so_far DotCr (wire ++ byte ∷ []) ≡ text_so_far Dot wire)
dot_cr byte wire b h =
    let r : wire_rest wire ++ byte ∷ [] ≡ 46 ∷ 13 ∷ [] = ap (λ t. t ++ byte ∷ []) h.at ∙ ap (λ t. 46 ∷ t ∷ []) b in
    let m = more Dot DotCr byte wire [] h (λ e _. omega arith) r (sym (append-nil (undotted (wire_rest wire)) ∙ ap undotted h.at)) in
    (m.0, m.1 ∙ append-nil (text_so_far Dot wire))

pub dot_byte : (byte : ℕ) (wire : List ℕ) → (byte ≡ 13 → ⊥) → IsOpenAt Dot wire → IsOpenAt (after byte) (wire ++ byte ∷ []) × (text_so_far (after byte) (wire ++ byte ∷ []) ≡ text_so_far Dot wire ++ byte ∷ [])
dot_byte byte wire n h =
    adds Dot byte wire (byte ∷ []) h (λ _ w. dot_no_cr (subst EndsInCr h.at w))
    (λ e. let w : 46 ∷ [] ≡ [] = sym h.at ∙ (same_from_push (wire_rest wire) [] byte 46 e).0 in cc)
    (λ e. n (same_from_push (wire_rest wire) (46 ∷ []) byte 13 e).1)
    (undotted_push (wire_rest wire) byte (λ e. let w : 46 ∷ [] ≡ [] = sym h.at ∙ e in cc))

pub dot_cr_byte : (byte : ℕ) (wire : List ℕ) → (byte ≡ 10 → ⊥) → IsOpenAt DotCr wire → IsOpenAt (after byte) (wire ++ byte ∷ []) × (text_so_far (after byte) (wire ++ byte ∷ []) ≡ (text_so_far DotCr wire ++ 13 ∷ []) ++ byte ∷ [])
dot_cr_byte byte wire n h =
    let m = adds DotCr byte wire (13 ∷ byte ∷ []) h (λ e _. n e)
    (λ e. let w : 46 ∷ 13 ∷ [] ≡ [] = sym h.at ∙ (same_from_push (wire_rest wire) [] byte 46 e).0 in cc)
    (λ e. let w : 46 ∷ 13 ∷ [] ≡ 46 ∷ [] = sym h.at ∙ (same_from_push (wire_rest wire) (46 ∷ []) byte 13 e).0 in cc)
    (ap (λ t. undotted (t ++ byte ∷ [])) h.at) in
    (m.0, m.1 ∙ sym (append_assoc (text_so_far DotCr wire) (13 ∷ []) (byte ∷ [])))

pub inside_byte : (byte : ℕ) (wire : List ℕ) → IsOpenAt Inside wire → IsOpenAt (after byte) (wire ++ byte ∷ []) × (text_so_far (after byte) (wire ++ byte ∷ []) ≡ text_so_far Inside wire ++ byte ∷ [])
inside_byte byte wire h =
    adds Inside byte wire (byte ∷ []) h (λ _ w. h.at.2 w)
    (λ e. h.at.0 (same_from_push (wire_rest wire) [] byte 46 e).0)
    (λ e. h.at.1 (same_from_push (wire_rest wire) (46 ∷ []) byte 13 e).0)
    (undotted_push (wire_rest wire) byte h.at.0)

pub cr_byte : (byte : ℕ) (wire : List ℕ) → (byte ≡ 10 → ⊥) → IsOpenAt Cr wire → IsOpenAt (after byte) (wire ++ byte ∷ []) × (text_so_far (after byte) (wire ++ byte ∷ []) ≡ text_so_far Cr wire ++ byte ∷ [])
cr_byte byte wire n h =
    let full : wire_rest wire ≢ [] = λ e. nil_no_cr (subst EndsInCr e h.at.1) in
    adds Cr byte wire (byte ∷ []) h (λ e _. n e)
    (λ e. full (same_from_push (wire_rest wire) [] byte 46 e).0)
    (λ e. dot_no_cr (subst EndsInCr (same_from_push (wire_rest wire) (46 ∷ []) byte 13 e).0 h.at.1))
    (undotted_push (wire_rest wire) byte full)

-- a line's own LF
pub cr_lf : (byte : ℕ) (wire : List ℕ) → byte ≡ 10 → IsOpenAt Cr wire → IsOpenAt Start (wire ++ byte ∷ []) × (text_so_far Start (wire ++ byte ∷ []) ≡ text_so_far Cr wire ++ byte ∷ [])
cr_lf byte wire b h = subst (λ (n : ℕ). IsOpenAt Start (wire ++ n ∷ []) × (text_so_far Start (wire ++ n ∷ []) ≡ text_so_far Cr wire ++ n ∷ [])) (sym b) at-lf
  where
    undotted_cr : (l : List ℕ) → undotted (l ++ 13 ∷ []) ≡ undotted l ++ 13 ∷ []
    undotted_cr [] = refl
    undotted_cr (x ∷ l) = undotted_push (x ∷ l) 13 (λ n. cc)

    at-lf : IsOpenAt Start (wire ++ 10 ∷ []) × (text_so_far Start (wire ++ 10 ∷ []) ≡ text_so_far Cr wire ++ 10 ∷ [])
    at-lf =
        let g = wire_end wire h.at.1.0 h.at.1.1 in
        let j : List ℕ = joined (map undotted (wire_lines wire)) in
        let u : List ℕ = undotted h.at.1.0 in (
          record {
            is_open = subst (λ (ls : List (List ℕ)). All (λ line. line ≢ dot) ls) (sym g.0)
                (All-push (λ line. line ≢ dot) (wire_lines wire) h.at.1.0 h.is_open (λ d. h.at.0 (h.at.1.1 ∙ ap (λ t. t ++ 13 ∷ []) d)));
            at = g.1;
          },
          ap (λ ls. joined (map undotted ls) ++ undotted (wire_rest (wire ++ 10 ∷ []))) g.0
              ∙ ap (λ r. joined (map undotted (wire_lines wire ++ h.at.1.0 ∷ [])) ++ undotted r) g.1
              ∙ append-nil (joined (map undotted (wire_lines wire ++ h.at.1.0 ∷ [])))
              ∙ ap joined (map-append undotted (wire_lines wire) (h.at.1.0 ∷ []))
              ∙ flat_map-append (λ l. l ++ crlf) (map undotted (wire_lines wire)) (u ∷ [])
              ∙ ap (λ t. j ++ t) (append-nil (u ++ crlf))
              ∙ sym (ap (λ t. (j ++ undotted t) ++ 10 ∷ []) h.at.1.1
              ∙ ap (λ t. (j ++ t) ++ 10 ∷ []) (undotted_cr h.at.1.0)
              ∙ append_assoc j (u ++ 13 ∷ []) (10 ∷ [])
              ∙ ap (λ t. j ++ t) (append_assoc u (13 ∷ []) (10 ∷ []))),
        )

-- the end of the data
pub dot_cr_lf : (byte : ℕ) (wire : List ℕ) → byte ≡ 10 → IsOpenAt DotCr wire → Plain (wire ++ byte ∷ []) (text_so_far DotCr wire)
dot_cr_lf byte wire b h = subst (λ (n : ℕ). Plain (wire ++ n ∷ []) (text_so_far DotCr wire)) (sym b) (record {
  lines = wire_lines wire;
  wire_is = (wire_end wire dot h.at).0;
  ended = (wire_end wire dot h.at).1;
  none_dot = h.is_open;
  text_is = append-nil (joined (map undotted (wire_lines wire)));
})
