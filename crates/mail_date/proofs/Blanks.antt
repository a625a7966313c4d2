-- What is passed as blank is white space and comments.
use Rattle.std.proofs.Common.{◌≡◌, ℕ, zero, suc, ◌+◌, ◌-◌, Bool, true, false, cond, List, [], ◌∷◌, ◌++◌, take, refl, ap, sym, subst, ◌∙◌, arith, append_assoc, inl, inr, ◌⊎◌}
use Rattle.std.specs.Prelude.{Option, Some, None, ◌==◌, ◌&&◌, ◌||◌, not}
use Rattle.std.specs.Bool.{Decides}
use Rattle.std.specs.Option.{option_map}
use Rattle.std.proofs.lemmas.Bool.Decides.{Decides-eqb}
use Rattle.mail_date.specs.declared.place.Place.{Place}
use Rattle.mail_date.specs.Bytes.{is_white}
use Rattle.mail_date.specs.Grammar.{Inside, Blank, is_plain}
use Rattle.mail_date.specs.Grammar as grammar
use Rattle.mail_date.specs.Reading.{◌>>=◌, outside, behind, blank_len}

-- ---- steps

pub bind_some : {A B : Type 0} (o : Option A) (f : A → Option B) (y : B) → (o >>= f) ≡ Some y → (x : A) × (o ≡ Some x) × (f x ≡ Some y)
bind_some (Some x) f y e = (x, refl, e)
bind_some None f y e = absurd cc

pub guard_some : {A : Type 0} (t : Bool) (x y : A) → cond t (Some x) None ≡ Some y → (t ≡ true) × (x ≡ y)
guard_some true x y e = (refl, cc)
guard_some false x y e = absurd cc

pub map_some : {A B : Type 0} (f : A → B) (o : Option A) (y : B) → option_map f o ≡ Some y → (x : A) × (o ≡ Some x) × (f x ≡ y)
map_some f (Some x) y e = (x, refl, cc)
map_some f None y e = absurd cc

pub either : {A : Type 0} (t : Bool) (x y z : A) → cond t x y ≡ z → ((t ≡ true) × (x ≡ z)) ⊎ ((t ≡ false) × (y ≡ z))
either true x y z e = inl (refl, e)
either false x y z e = inr (refl, e)

pub decides_false : {P : Type 0} (b : Bool) → Decides b P → (P → ⊥) → b ≡ false
decides_false true h n = absurd (n (h.0 refl))
decides_false false h n = refl

-- ---- places

abbrev pub inside : Bool → ℕ → Place
inside e d = record { is_quoted = false; is_escaped = e; depth = d }

-- so many comments are closed, and such a text follows
abbrev pub Closes : (List ℕ → Type 0) → ℕ → List ℕ → Type 0
Closes P zero text = P text
Closes P (suc d) text = (inner : List ℕ) × (rest : List ℕ) × (text ≡ inner ++ 41 ∷ rest) × Inside inner × Closes P d rest

abbrev pub Found : (List ℕ → Type 0) → Bool → ℕ → List ℕ → Type 0
Found P false d text = Closes P d text
Found P true zero text = Unit {0}
Found P true (suc d) text = (b : ℕ) × (more : List ℕ) × (text ≡ b ∷ more) × Closes P (suc d) more

white_cases : (a b c d : Bool) → (((a || b) || c) || d) ≡ true → (a ≡ true) ⊎ (b ≡ true) ⊎ (c ≡ true) ⊎ (d ≡ true)
white_cases true b c d e = inl refl
white_cases false true c d e = inr (inl refl)
white_cases false false true d e = inr (inr (inl refl))
white_cases false false false true e = inr (inr (inr refl))
white_cases false false false false e = absurd cc

stays : (b k : ℕ) → (b == k) ≡ true → behind outside k ≡ outside → behind outside b ≡ outside
stays b k e h = subst (λ (x : ℕ). behind outside x ≡ outside) (sym ((Decides-eqb b k).0 e)) h

pub behind_white : (b : ℕ) → is_white b ≡ true → behind outside b ≡ outside
behind_white b w =
    elim (white_cases (b == 32) (b == 9) (b == 13) (b == 10) w) [
      | inl e ↦ stays b 32 e refl
      | inr f ↦ elim f [
        | inl e ↦ stays b 9 e refl
        | inr g ↦ elim g [
          | inl e ↦ stays b 13 e refl
          | inr e ↦ stays b 10 e refl
        ]
      ]
    ]

white_or : (t u : Bool) → not (t || u) ≡ false → (t ≡ true) ⊎ (u ≡ true)
white_or true u e = inl refl
white_or false true e = inr refl
white_or false false e = absurd cc

pub shown : (m n : ℕ) (b : ℕ) (bs : List ℕ) → suc m ≡ n → take n (b ∷ bs) ≡ b ∷ take m bs
shown m n b bs e = subst (λ (k : ℕ). take k (b ∷ bs) ≡ b ∷ take m bs) e refl

-- ---- by the byte

plain_byte : (b : ℕ) → (b == 92) ≡ false → (b == 40) ≡ false → (b == 41) ≡ false → is_plain b ≡ true
plain_byte b k o c =
    ap (λ (u : Bool). not (u || ((b == 41) || ((b == 92) || false)))) o
    ∙ ap (λ (u : Bool). not (u || ((b == 92) || false))) c
    ∙ ap (λ (u : Bool). not (u || false)) k

-- behind a byte within a comment
pub not_zero : (d : ℕ) → (suc d == 0) ≡ false
not_zero d = decides_false (suc d == 0) (Decides-eqb (suc d) 0) (λ e. omega (arith, e))

abbrev stepped : Bool → ℕ → ℕ → Place
stepped z d b =
    cond (b == 92) (record { is_quoted = false; is_escaped = not z; depth = suc d })
    (cond (b == 40) (inside false (suc d + 1))
    (cond (b == 41) (inside false (suc d - 1)) (record { is_quoted = z && (b == 34); is_escaped = false; depth = suc d })))

abbrev chosen : Bool → Bool → Bool → ℕ → Place
chosen k o c d = cond k (inside true (suc d)) (cond o (inside false (suc d + 1)) (cond c (inside false (suc d - 1)) (inside false (suc d))))

pub within : (d b : ℕ) → behind (inside false (suc d)) b ≡ chosen (b == 92) (b == 40) (b == 41) d
within d b = ap (λ (z : Bool). stepped z d b) (not_zero d)

-- a byte before what closes so many comments
pub closes_more : (P : List ℕ → Type 0) (d b : ℕ) (more : List ℕ) → (k o c : Bool) → (b == 92) ≡ k → (b == 40) ≡ o → (b == 41) ≡ c
    → Found P k (cond k (suc d) (cond o (suc (suc d)) (cond c d (suc d)))) more → Closes P (suc d) (b ∷ more)
closes_more P d b more true o c e f g w =
    let is : b ≡ 92 = (Decides-eqb b 92).0 e in
    (92 ∷ w.0 ∷ w.3.0, w.3.1, ap (λ (x : ℕ). x ∷ more) is ∙ ap (λ (l : List ℕ). 92 ∷ l) (w.2 ∙ ap (λ (l : List ℕ). w.0 ∷ l) w.3.2), grammar.escaped w.3.3, w.3.4)
closes_more P d b more false true c e f g w =
    let is : b ≡ 40 = (Decides-eqb b 40).0 f in
    let same : b ∷ more ≡ 40 ∷ (w.0 ++ 41 ∷ (w.4.0 ++ 41 ∷ w.4.1)) = ap (λ (x : ℕ). x ∷ more) is ∙ ap (λ (l : List ℕ). 40 ∷ l) (w.2 ∙ ap (λ (l : List ℕ). w.0 ++ 41 ∷ l) w.4.2) in
    (40 ∷ (w.0 ++ 41 ∷ w.4.0), w.4.1, same ∙ ap (λ (l : List ℕ). 40 ∷ l) (sym (append_assoc w.0 (41 ∷ w.4.0) (41 ∷ w.4.1))), grammar.nested w.0 w.4.0 refl w.3 w.4.3, w.4.4)
closes_more P d b more false false true e f g w =
    ([], more, ap (λ (x : ℕ). x ∷ more) ((Decides-eqb b 41).0 g), grammar.end, w)
closes_more P d b more false false false e f g w =
    (b ∷ w.0, w.1, ap (λ (l : List ℕ). b ∷ l) w.2, grammar.plain (plain_byte b e f g) w.3, w.4)

pub at_place : (k o c : Bool) (d : ℕ) → chosen k o c d ≡ inside k (cond k (suc d) (cond o (suc (suc d)) (cond c d (suc d))))
at_place true o c d = refl
at_place false true c d = ap (λ (n : ℕ). inside false n) (omega arith)
at_place false false true d = ap (λ (n : ℕ). inside false n) (omega arith)
at_place false false false d = refl

nothing : (t : Bool) (n : ℕ) → t ≡ false → cond t (Some 0) None ≡ Some n → ⊥
nothing true n f e = cc
nothing false n f e = cc

goes_on : (t w : Bool) (o : Option ℕ) (n : ℕ) → t ≡ false → cond (t && w) (Some 0) o ≡ Some n → o ≡ Some n
goes_on true w o n f e = absurd cc
goes_on false w o n f e = e

pub blank_found : (bytes : List ℕ) (e : Bool) (d n : ℕ) → blank_len (inside e d) bytes ≡ Some n → Found Blank e d (take n bytes)
blank_found [] false zero n h = subst (λ (k : ℕ). Blank (take k [])) (let s : 0 ≡ n = cc in s) grammar.end
blank_found [] true zero n h = tt
blank_found [] e (suc d) n h = absurd (nothing (suc d == 0) n (not_zero d) h)
blank_found (b ∷ bs) true zero n h = tt
blank_found (b ∷ bs) false zero n h =
    elim (either (not (is_white b || (b == 40))) (Some 0) (option_map suc (blank_len (behind outside b) bs)) (Some n) h) [
      | inl q ↦ subst (λ (k : ℕ). Blank (take k (b ∷ bs))) (let s : 0 ≡ n = cc in s) grammar.end
      | inr q ↦
          let m = map_some suc (blank_len (behind outside b) bs) n q.1 in
          subst Blank (sym (shown m.0 n b bs m.2))
          (elim (white_or (is_white b) (b == 40) q.0) [
            | inl w ↦ grammar.white w (blank_found bs false 0 m.0 (sym (ap (λ (p : Place). blank_len p bs) (behind_white b w)) ∙ m.1))
            | inr o ↦
                let is : b ≡ 40 = (Decides-eqb b 40).0 o in
                let f = blank_found bs false 1 m.0 (sym (ap (λ (x : ℕ). blank_len (behind outside x) bs) is) ∙ m.1) in
                grammar.comment f.0 f.1 (ap (λ (x : ℕ). x ∷ take m.0 bs) is ∙ ap (λ (l : List ℕ). 40 ∷ l) f.2) f.3 f.4
          ])
    ]
blank_found (b ∷ bs) true (suc d) n h =
    let m = map_some suc (blank_len (inside false (suc d)) bs) n (goes_on (suc d == 0) (not (is_white b || (b == 40))) (option_map suc (blank_len (inside false (suc d)) bs)) n (not_zero d) h) in
    (b, take m.0 bs, shown m.0 n b bs m.2, blank_found bs false (suc d) m.0 m.1)
blank_found (b ∷ bs) false (suc d) n h =
    let next = blank_len (behind (inside false (suc d)) b) bs in
    let m = map_some suc next n (goes_on (suc d == 0) (not (is_white b || (b == 40))) (option_map suc next) n (not_zero d) h) in
    let k = b == 92 in
    let o = b == 40 in
    let c = b == 41 in
    let p : behind (inside false (suc d)) b ≡ inside k (cond k (suc d) (cond o (suc (suc d)) (cond c d (suc d)))) = within d b ∙ at_place k o c d in
    subst (Closes Blank (suc d)) (sym (shown m.0 n b bs m.2))
    (closes_more Blank d b (take m.0 bs) k o c refl refl refl
    (blank_found bs k (cond k (suc d) (cond o (suc (suc d)) (cond c d (suc d)))) m.0 (sym (ap (λ (p : Place). blank_len p bs) p) ∙ m.1)))
