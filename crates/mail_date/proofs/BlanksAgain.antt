-- White space and comments are passed as a whole, whatever follows them.
use Rattle.std.proofs.Common.{◌≡◌, ℕ, suc, ◌+◌, ◌-◌, Bool, true, false, cond, List, [], ◌∷◌, ◌++◌, length, drop, refl, ap, sym, subst, ◌∙◌, arith, length-append, append_assoc}
use Rattle.std.specs.Prelude.{Option, Some, ◌==◌, ◌&&◌, ◌||◌, not}
use Rattle.std.specs.Option.{option_map}
use Rattle.std.proofs.lemmas.List.{drop_at}
use Rattle.mail_date.specs.declared.place.Place.{Place}
use Rattle.mail_date.specs.Bytes.{is_white}
use Rattle.mail_date.specs.Grammar.{Inside, Blank, Gap, is_plain}
use Rattle.mail_date.specs.Grammar as grammar
use Rattle.mail_date.specs.Reading.{◌>>=◌, outside, behind, blank_len, past_blank}
use Rattle.mail_date.proofs.Blanks.{inside, within, not_zero, behind_white}

-- the text begins with a byte of the class, or with none
abbrev pub Starts : (ℕ → Bool) → List ℕ → Type 0
Starts p [] = ⊥
Starts p (b ∷ bs) = p b ≡ true

abbrev pub Stops : (ℕ → Bool) → List ℕ → Type 0
Stops p [] = Unit {0}
Stops p (b ∷ bs) = p b ≡ false

-- the first byte of what is blank
abbrev pub is_open : ℕ → Bool
is_open b = is_white b || (b == 40)

pub starts_on : (p : ℕ → Bool) (a b : List ℕ) → Starts p a → Starts p (a ++ b)
starts_on p [] b h = absurd h
starts_on p (x ∷ xs) b h = h

pub apart : (p q : ℕ → Bool) → ((b : ℕ) → p b ≡ true → q b ≡ false) → (text : List ℕ) → Starts p text → Stops q text
apart p q f [] h = tt
apart p q f (x ∷ xs) h = f x h

pub open_white : (b : ℕ) → is_white b ≡ true → is_open b ≡ true
open_white b w = ap (λ (t : Bool). t || (b == 40)) w

pub blank_stops : (q : ℕ → Bool) → ((b : ℕ) → is_open b ≡ true → q b ≡ false) → {text : List ℕ} → Blank text → (rest : List ℕ) → Stops q rest → Stops q (text ++ rest)
blank_stops q f grammar.end rest s = s
blank_stops q f (grammar.white {b} {text} w h) rest s = f b (open_white b w)
blank_stops q f (grammar.comment {text} inner more e i h) rest s = subst (λ (l : List ℕ). Stops q (l ++ rest)) (sym e) (f 40 refl)

-- ---- within comments

step : (d b : ℕ) (bs : List ℕ) (p : Place) → behind (inside false (suc d)) b ≡ p → blank_len (inside false (suc d)) (b ∷ bs) ≡ option_map suc (blank_len p bs)
step d b bs p e =
    ap (λ (z : Bool). cond (z && not (is_white b || (b == 40))) (Some 0) (option_map suc (blank_len (behind (inside false (suc d)) b) bs))) (not_zero d)
    ∙ ap (λ (q : Place). option_map suc (blank_len q bs)) e

step_escaped : (d b : ℕ) (bs : List ℕ) → blank_len (inside true (suc d)) (b ∷ bs) ≡ option_map suc (blank_len (inside false (suc d)) bs)
step_escaped d b bs = ap (λ (z : Bool). cond (z && not (is_white b || (b == 40))) (Some 0) (option_map suc (blank_len (inside false (suc d)) bs))) (not_zero d)

plain_is : (o c k : Bool) → not (o || (c || (k || false))) ≡ true → (o ≡ false) × (c ≡ false) × (k ≡ false)
plain_is false false false e = (refl, refl, refl)
plain_is true c k e = absurd cc
plain_is false true k e = absurd cc
plain_is false false true e = absurd cc

pub plain_behind : (d b : ℕ) → is_plain b ≡ true → behind (inside false (suc d)) b ≡ inside false (suc d)
plain_behind d b p =
    let f = plain_is (b == 40) (b == 41) (b == 92) p in
    within d b
    ∙ ap (λ (t : Bool). cond t (inside true (suc d)) (cond (b == 40) (inside false (suc d + 1)) (cond (b == 41) (inside false (suc d - 1)) (inside false (suc d))))) f.2
    ∙ ap (λ (t : Bool). cond t (inside false (suc d + 1)) (cond (b == 41) (inside false (suc d - 1)) (inside false (suc d)))) f.0
    ∙ ap (λ (t : Bool). cond t (inside false (suc d - 1)) (inside false (suc d))) f.1

opened : (d : ℕ) → behind (inside false (suc d)) 40 ≡ inside false (suc (suc d))
opened d = within d 40 ∙ ap (λ (n : ℕ). inside false n) (omega arith)

closed : (d : ℕ) → behind (inside false (suc d)) 41 ≡ inside false d
closed d = within d 41 ∙ ap (λ (n : ℕ). inside false n) (omega arith)

pub inside_again : {inner : List ℕ} → Inside inner → (d n : ℕ) (rest : List ℕ) → blank_len (inside false (suc d)) rest ≡ Some n
    → blank_len (inside false (suc d)) (inner ++ rest) ≡ Some (length inner + n)
inside_again grammar.end d n rest h = h ∙ ap (λ (m : ℕ). Some m) (omega arith)
inside_again (grammar.plain {b} {text} p i) d n rest h =
    step d b (text ++ rest) (inside false (suc d)) (plain_behind d b p)
    ∙ ap (λ (o : Option ℕ). option_map suc o) (inside_again i d n rest h)
    ∙ ap (λ (m : ℕ). Some m) (omega arith)
inside_again (grammar.escaped {b} {text} i) d n rest h =
    step d 92 (b ∷ (text ++ rest)) (inside true (suc d)) (within d 92)
    ∙ ap (λ (o : Option ℕ). option_map suc o) (step_escaped d b (text ++ rest))
    ∙ ap (λ (o : Option ℕ). option_map suc (option_map suc o)) (inside_again i d n rest h)
    ∙ ap (λ (m : ℕ). Some m) (omega arith)
inside_again (grammar.nested {text} inn more e i j) d n rest h =
    let k = inside_again j d n rest h in
    let after : blank_len (inside false (suc (suc d))) (41 ∷ (more ++ rest)) ≡ Some (suc (length more + n)) =
    step (suc d) 41 (more ++ rest) (inside false (suc d)) (closed (suc d)) ∙ ap (λ (o : Option ℕ). option_map suc o) k in
    let l : length text ≡ suc (length (inn ++ 41 ∷ more)) = ap length e in
    let m = length-append inn (41 ∷ more) in
    ap (λ (t : List ℕ). blank_len (inside false (suc d)) t) (ap (λ (t : List ℕ). t ++ rest) e ∙ ap (λ (t : List ℕ). 40 ∷ t) (append_assoc inn (41 ∷ more) rest))
    ∙ step d 40 (inn ++ 41 ∷ (more ++ rest)) (inside false (suc (suc d))) (opened d)
    ∙ ap (λ (o : Option ℕ). option_map suc o) (inside_again i (suc d) (suc (length more + n)) (41 ∷ (more ++ rest)) after)
    ∙ ap (λ (x : ℕ). Some x) (omega (arith, l, m))

-- ---- at the front

none_blank : (rest : List ℕ) → Stops is_open rest → blank_len outside rest ≡ Some 0
none_blank [] s = refl
none_blank (x ∷ xs) s = ap (λ (t : Bool). cond (not t) (Some 0) (option_map suc (blank_len (behind outside x) xs))) s

pub blank_again : {text : List ℕ} → Blank text → (rest : List ℕ) → Stops is_open rest → blank_len outside (text ++ rest) ≡ Some (length text)
blank_again grammar.end rest s = none_blank rest s
blank_again (grammar.white {b} {text} w i) rest s =
    ap (λ (t : Bool). cond (not (t || (b == 40))) (Some 0) (option_map suc (blank_len (behind outside b) (text ++ rest)))) w
    ∙ ap (λ (p : Place). option_map suc (blank_len p (text ++ rest))) (behind_white b w)
    ∙ ap (λ (o : Option ℕ). option_map suc o) (blank_again i rest s)
blank_again (grammar.comment {text} inner more e i j) rest s =
    let after : blank_len (inside false 1) (41 ∷ (more ++ rest)) ≡ Some (suc (length more)) =
    step 0 41 (more ++ rest) outside (closed 0) ∙ ap (λ (o : Option ℕ). option_map suc o) (blank_again j rest s) in
    let l : length text ≡ suc (length (inner ++ 41 ∷ more)) = ap length e in
    let m = length-append inner (41 ∷ more) in
    ap (λ (t : List ℕ). blank_len outside t) (ap (λ (t : List ℕ). t ++ rest) e ∙ ap (λ (t : List ℕ). 40 ∷ t) (append_assoc inner (41 ∷ more) rest))
    ∙ ap (λ (o : Option ℕ). option_map suc o) (inside_again i 0 (suc (length more)) (41 ∷ (more ++ rest)) after)
    ∙ ap (λ (x : ℕ). Some x) (omega (arith, l, m))

pub past_again : {text : List ℕ} → Blank text → (rest : List ℕ) → Stops is_open rest → past_blank (text ++ rest) ≡ Some rest
past_again {text} h rest s =
    ap (λ (o : Option ℕ). o >>= (λ (n : ℕ). Some (drop n (text ++ rest)))) (blank_again h rest s)
    ∙ ap (λ (l : List ℕ). Some l) (drop_at text rest (length text) refl)
