-- No quoted string and no comment is open behind a text exactly where each that begins also ends.
use Rattle.std.proofs.Common.{◌≡◌, ℕ, zero, suc, Bool, true, false, cond, List, [], ◌∷◌, ◌++◌, refl, ap, sym, ◌∙◌}
use Rattle.std.specs.Prelude.{◌==◌, ◌||◌, not}
use Rattle.std.proofs.lemmas.Bool.Decides.{Decides-eqb}
use Rattle.mail_date.specs.declared.place.Place.{Place}
use Rattle.mail_date.specs.Grammar.{Inside}
use Rattle.mail_date.specs.Grammar as grammar
use Rattle.mail_date.specs.Header.{Quoted, Closed}
use Rattle.mail_date.specs.Header as header
use Rattle.mail_date.specs.Reading.{outside, is_outside, behind}
use Rattle.mail_date.proofs.Blanks.{Found, closes_more, at_place, inside, not_zero, within}
use Rattle.mail_date.proofs.BlanksAgain.{plain_behind}

-- where the byte behind a text stands
abbrev pub after : Place → List ℕ → Place
after p [] = p
after p (b ∷ bs) = after (behind p b) bs

after_both : (p : Place) (xs ys : List ℕ) → after p (xs ++ ys) ≡ after (after p xs) ys
after_both p [] ys = refl
after_both p (x ∷ xs) ys = after_both (behind p x) xs ys

-- within a quoted string
abbrev quoted : Bool → Place
quoted e = record { is_quoted = true; is_escaped = e; depth = 0 }

opens : (d : ℕ) → behind (inside false (suc d)) 40 ≡ inside false (suc (suc d))
opens d = within d 40 ∙ at_place false true false d

shuts : (d : ℕ) → behind (inside false (suc d)) 41 ≡ inside false d
shuts d = within d 41 ∙ at_place false false true d

inside_after : {text : List ℕ} → Inside text → (d : ℕ) → after (inside false (suc d)) text ≡ inside false (suc d)
inside_after grammar.end d = refl
inside_after (grammar.plain {b} {text} p i) d = ap (λ (q : Place). after q text) (plain_behind d b p) ∙ inside_after i d
inside_after (grammar.escaped {b} {text} i) d = ap (λ (q : Place). after (behind q b) text) (within d 92) ∙ inside_after i d
inside_after (grammar.nested {text} inner rest e i j) d =
    ap (after (inside false (suc d))) e
    ∙ ap (λ (q : Place). after q (inner ++ 41 ∷ rest)) (opens d)
    ∙ after_both (inside false (suc (suc d))) inner (41 ∷ rest)
    ∙ ap (λ (q : Place). after q (41 ∷ rest)) (inside_after i (suc d))
    ∙ ap (λ (q : Place). after q rest) (shuts (suc d))
    ∙ inside_after j d

neither : (p q : Bool) → not (p || (q || false)) ≡ true → (p ≡ false) × (q ≡ false)
neither false false h = (refl, refl)
neither true q h = absurd cc
neither false true h = absurd cc

quoted_plain : (b : ℕ) → (b == 34) ≡ false → (b == 92) ≡ false → behind (quoted false) b ≡ quoted false
quoted_plain b q k =
    ap (λ (t : Bool). cond t (quoted true) (record { is_quoted = not (b == 34); is_escaped = false; depth = 0 })) k
    ∙ ap (λ (t : Bool). record { is_quoted = not t; is_escaped = false; depth = 0 }) q

quoted_after : {text : List ℕ} → Quoted text → after (quoted false) text ≡ quoted false
quoted_after header.end = refl
quoted_after (header.plain {b} {text} p i) =
    let n = neither (b == 34) (b == 92) p in
    ap (λ (q : Place). after q text) (quoted_plain b n.0 n.1) ∙ quoted_after i
quoted_after (header.escaped {b} {text} i) = quoted_after i

each_outside : (k c : Bool) → cond k outside (cond c outside outside) ≡ outside
each_outside true c = refl
each_outside false true = refl
each_outside false false = refl

abbrev outside_by : Bool → Bool → Bool → Bool → Place
outside_by k o c q = cond k outside (cond o (inside false 1) (cond c outside (record { is_quoted = q; is_escaped = false; depth = 0 })))

plain_outside : (b : ℕ) → (b == 34) ≡ false → (b == 40) ≡ false → behind outside b ≡ outside
plain_outside b q o =
    ap (λ (t : Bool). outside_by (b == 92) t (b == 41) (b == 34)) o
    ∙ ap (λ (t : Bool). outside_by (b == 92) false (b == 41) t) q
    ∙ each_outside (b == 92) (b == 41)

pub closed_after : {text : List ℕ} → Closed text → after outside text ≡ outside
closed_after header.end = refl
closed_after (header.byte {b} {text} p i) =
    let n = neither (b == 34) (b == 40) p in
    ap (λ (q : Place). after q text) (plain_outside b n.0 n.1) ∙ closed_after i
closed_after (header.string {text} inner rest e i j) =
    ap (after outside) e
    ∙ after_both (quoted false) inner (34 ∷ rest)
    ∙ ap (λ (q : Place). after q (34 ∷ rest)) (quoted_after i)
    ∙ closed_after j
closed_after (header.comment {text} inner rest e i j) =
    ap (after outside) e
    ∙ after_both (inside false 1) inner (41 ∷ rest)
    ∙ ap (λ (q : Place). after q (41 ∷ rest)) (inside_after i 0)
    ∙ closed_after j

-- ---- and the other way round

data State : Type 0 where
  comments : Bool → ℕ → State
  string : Bool → State

abbrev place_of : State → Place
place_of (comments e d) = inside e d
place_of (string e) = quoted e

-- the quoted string is closed, and such a text follows
abbrev Shut : List ℕ → Type 0
Shut text = (inner : List ℕ) × (rest : List ℕ) × (text ≡ inner ++ 34 ∷ rest) × Quoted inner × Closed rest

abbrev Ends : Bool → List ℕ → Type 0
Ends false text = Shut text
Ends true text = (b : ℕ) × (more : List ℕ) × (text ≡ b ∷ more) × Shut more

abbrev Claim : State → List ℕ → Type 0
Claim (comments e d) text = Found Closed e d text
Claim (string e) text = Ends e text

by_string : (b : ℕ) (more : List ℕ) (k q : Bool) → (b == 92) ≡ k → (b == 34) ≡ q
    → Claim (cond k (string true) (cond q (comments false 0) (string false))) more → Ends false (b ∷ more)
by_string b more true q e f h =
    let is : b ≡ 92 = (Decides-eqb b 92).0 e in
    let w = h.3 in
    (92 ∷ h.0 ∷ w.0, w.1, ap (λ (x : ℕ). x ∷ more) is ∙ ap (λ (l : List ℕ). 92 ∷ l) (h.2 ∙ ap (λ (l : List ℕ). h.0 ∷ l) w.2), header.escaped w.3, w.4)
by_string b more false true e f h = ([], more, ap (λ (x : ℕ). x ∷ more) ((Decides-eqb b 34).0 f), header.end, h)
by_string b more false false e f h =
    (b ∷ h.0, h.1, ap (λ (l : List ℕ). b ∷ l) h.2, header.plain (ap (λ (t : Bool). not (t || ((b == 92) || false))) f ∙ ap (λ (t : Bool). not (t || false)) e) h.3, h.4)

string_place : (k q : Bool) → cond k (quoted true) (record { is_quoted = not q; is_escaped = false; depth = 0 }) ≡ place_of (cond k (string true) (cond q (comments false 0) (string false)))
string_place true q = refl
string_place false true = refl
string_place false false = refl

by_outside : (b : ℕ) (more : List ℕ) (q o : Bool) → (b == 34) ≡ q → (b == 40) ≡ o
    → Claim (cond q (string false) (cond o (comments false 1) (comments false 0))) more → Closed (b ∷ more)
by_outside b more true o e f h = header.string h.0 h.1 (ap (λ (x : ℕ). x ∷ more) ((Decides-eqb b 34).0 e) ∙ ap (λ (l : List ℕ). 34 ∷ l) h.2) h.3 h.4
by_outside b more false true e f h = header.comment h.0 h.1 (ap (λ (x : ℕ). x ∷ more) ((Decides-eqb b 40).0 f) ∙ ap (λ (l : List ℕ). 40 ∷ l) h.2) h.3 h.4
by_outside b more false false e f h = header.byte (ap (λ (t : Bool). not (t || ((b == 40) || false))) e ∙ ap (λ (t : Bool). not (t || false)) f) h

outside_place : (b : ℕ) (q o : Bool) → (b == 34) ≡ q → (b == 40) ≡ o → behind outside b ≡ place_of (cond q (string false) (cond o (comments false 1) (comments false 0)))
outside_place b true o e f = ap (behind outside) ((Decides-eqb b 34).0 e)
outside_place b false true e f = ap (behind outside) ((Decides-eqb b 40).0 f)
outside_place b false false e f = plain_outside b e f

not_out : (t : Bool) → t ≡ false → t ≡ true → ⊥
not_out true e f = absurd cc
not_out false e f = absurd cc

found : (s : State) (text : List ℕ) → is_outside (after (place_of s) text) ≡ true → Claim s text
found (comments false zero) [] h = header.end
found (comments true zero) [] h = tt
found (comments e (suc d)) [] h = absurd (not_out (suc d == 0) (not_zero d) h)
found (string e) [] h = absurd cc
found (comments true zero) (b ∷ bs) h = tt
found (comments true (suc d)) (b ∷ bs) h = (b, bs, refl, found (comments false (suc d)) bs h)
found (string true) (b ∷ bs) h = (b, bs, refl, found (string false) bs h)
found (string false) (b ∷ bs) h =
    let q = b == 34 in
    let k = b == 92 in
    by_string b bs k q refl refl
    (found (cond k (string true) (cond q (comments false 0) (string false))) bs (sym (ap (λ (p : Place). is_outside (after p bs)) (string_place k q)) ∙ h))
found (comments false zero) (b ∷ bs) h =
    let q = b == 34 in
    let o = b == 40 in
    by_outside b bs q o refl refl
    (found (cond q (string false) (cond o (comments false 1) (comments false 0))) bs (sym (ap (λ (p : Place). is_outside (after p bs)) (outside_place b q o refl refl)) ∙ h))
found (comments false (suc d)) (b ∷ bs) h =
    let k = b == 92 in
    let o = b == 40 in
    let c = b == 41 in
    let p : behind (inside false (suc d)) b ≡ inside k (cond k (suc d) (cond o (suc (suc d)) (cond c d (suc d)))) = within d b ∙ at_place k o c d in
    closes_more Closed d b bs k o c refl refl refl
    (found (comments k (cond k (suc d) (cond o (suc (suc d)) (cond c d (suc d))))) bs (sym (ap (λ (q : Place). is_outside (after q bs)) p) ∙ h))

pub closed_by : (text : List ℕ) → is_outside (after outside text) ≡ true → Closed text
closed_by text h = found (comments false 0) text h
