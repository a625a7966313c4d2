-- Patterns and the names that they stand for.
use Rattle.std.proofs.Common.{◌≡◌, ◌≢◌, ℕ, suc, ◌+◌, ◌<◌, Bool, true, false, cond, List, [], ◌∷◌, ◌++◌, length, drop, refl, ap, sym, subst, ◌∙◌, arith, inl, inr, ◌⊎◌}
use Rattle.std.specs.Prelude.{◌-◌, ◌==◌, ◌&&◌, ◌||◌, map, flat_map, take}
use Rattle.std.proofs.lemmas.List.{drop-drop, take_rest}
use Rattle.std.proofs.lemmas.Bool.Decides.{Decides-eqb}
use Rattle.envelope.proofs.Case.{decides_false}
use Rattle.envelope.proofs.Words.{both_true}
use Rattle.envelope.specs.Bytes.{is_not_slash}
use Rattle.envelope.specs.Grammar.{Many}
use Rattle.imap_answers.specs.Answers.{Glob, end, any, level, same, some_rest, after_byte, matches, is_listed, name_answer, listed, asks_for_root, root_answer, list_answer}
use Rattle.imap_answers.specs.declared.list.Listing.{Listing}

-- ---- the relation and its test

class_rest : (class : ℕ → Bool) (test : List ℕ → Bool) (front rest : List ℕ) → Many class front → test rest ≡ true → some_rest class test (front ++ rest) ≡ true
class_rest class test [] [] m h = h
class_rest class test [] (b ∷ bs) m h = ap (λ (t : Bool). t || (class b && some_rest class test bs)) h
class_rest class test (x ∷ xs) rest m h =
    or_true (test (x ∷ (xs ++ rest))) (class x && some_rest class test (xs ++ rest)) (ap (λ (t : Bool). t && some_rest class test (xs ++ rest)) m.0 ∙ class_rest class test xs rest m.1 h)
  where
    or_true : (a b : Bool) → b ≡ true → (a || b) ≡ true
    or_true true b e = refl
    or_true false b e = e

all_bytes : (xs : List ℕ) → Many (λ b. true) xs
all_bytes [] = tt
all_bytes (x ∷ xs) = (refl, all_bytes xs)

apart : (p c : ℕ) → p ≢ c → (p == c) ≡ false
apart p c ne = decides_false (p == c) (Decides-eqb p c) ne

pub glob_matches : {pattern name : List ℕ} → Glob pattern name → matches pattern name ≡ true
glob_matches end = refl
glob_matches (any {pattern} {rest} front {name} e g) =
    ap (some_rest (λ b. true) (matches pattern)) e ∙ class_rest (λ b. true) (matches pattern) front rest (all_bytes front) (glob_matches g)
glob_matches (level {pattern} {rest} front {name} e m g) =
    ap (some_rest is_not_slash (matches pattern)) e ∙ class_rest is_not_slash (matches pattern) front rest m (glob_matches g)
glob_matches (same {b} {pattern} {name} s t g) =
    ap (λ (u : Bool). cond u (some_rest (λ c. true) (matches pattern) (b ∷ name)) (cond (b == 37) (some_rest is_not_slash (matches pattern) (b ∷ name)) ((b == b) && matches pattern name))) (apart b 42 s)
    ∙ ap (λ (u : Bool). cond u (some_rest is_not_slash (matches pattern) (b ∷ name)) ((b == b) && matches pattern name)) (apart b 37 t)
    ∙ ap (λ (u : Bool). u && matches pattern name) ((Decides-eqb b b).1 refl)
    ∙ glob_matches g

record Rest (class : ℕ → Bool) (test : List ℕ → Bool) (name : List ℕ) : Type 0 where
  front : List ℕ
  rest : List ℕ
  parts : name ≡ front ++ rest
  is : Many class front
  passes : test rest ≡ true

one_of : (a b : Bool) → (a || b) ≡ true → (a ≡ true) ⊎ (b ≡ true)
one_of true b e = inl refl
one_of false b e = inr e

rest_of : (class : ℕ → Bool) (test : List ℕ → Bool) (name : List ℕ) → some_rest class test name ≡ true → Rest class test name
rest_of class test [] h = record { front = []; rest = []; parts = refl; is = tt; passes = h }
rest_of class test (b ∷ bs) h =
    elim (one_of (test (b ∷ bs)) (class b && some_rest class test bs) h) [
      | inl q ↦ record { front = []; rest = b ∷ bs; parts = refl; is = tt; passes = q }
      | inr q ↦
          let k = both_true (class b) (some_rest class test bs) q in
          let r = rest_of class test bs k.1 in
          record { front = b ∷ r.front; rest = r.rest; parts = ap (λ l. b ∷ l) r.parts; is = (k.0, r.is); passes = r.passes }
    ]

byte_glob : (p : ℕ) (ps name : List ℕ) → (p == 42) ≡ false → (p == 37) ≡ false → ((rest : List ℕ) → matches ps rest ≡ true → Glob ps rest) → after_byte p (matches ps) name ≡ true → Glob (p ∷ ps) name
byte_glob p ps [] s t again h = absurd cc
byte_glob p ps (b ∷ bs) s t again h =
    let k = both_true (b == p) (matches ps bs) h in
    let is : b ≡ p = (Decides-eqb b p).0 k.0 in
    subst (λ c. Glob (p ∷ ps) (c ∷ bs)) (sym is)
    (same (λ e. let yes : (p == 42) ≡ true = (Decides-eqb p 42).1 e in cc) (λ e. let yes : (p == 37) ≡ true = (Decides-eqb p 37).1 e in cc) (again bs k.1))

glob_case : (s t : Bool) (p : ℕ) (ps name : List ℕ) → (p == 42) ≡ s → (p == 37) ≡ t → ((rest : List ℕ) → matches ps rest ≡ true → Glob ps rest)
    → cond s (some_rest (λ b. true) (matches ps) name) (cond t (some_rest is_not_slash (matches ps) name) (after_byte p (matches ps) name)) ≡ true → Glob (p ∷ ps) name
glob_case true t p ps name e f again h =
    let r = rest_of (λ b. true) (matches ps) name h in
    subst (λ c. Glob (c ∷ ps) name) (sym ((Decides-eqb p 42).0 e)) (any r.front r.parts (again r.rest r.passes))
glob_case false true p ps name e f again h =
    let r = rest_of is_not_slash (matches ps) name h in
    subst (λ c. Glob (c ∷ ps) name) (sym ((Decides-eqb p 37).0 f)) (level r.front r.parts r.is (again r.rest r.passes))
glob_case false false p ps name e f again h = byte_glob p ps name e f again h

pub matches_glob : (pattern name : List ℕ) → matches pattern name ≡ true → Glob pattern name
matches_glob [] [] h = end
matches_glob [] (b ∷ bs) h = absurd (let same : suc (length bs) ≡ 0 = (Decides-eqb (suc (length bs)) 0).0 h in omega (arith, same))
matches_glob (p ∷ ps) name h = glob_case (p == 42) (p == 37) p ps name refl refl (λ rest k. matches_glob ps rest k) h

-- ---- names

pub listed_true : (listing : Listing) (pattern name : List ℕ) → is_listed pattern name ≡ true → listed listing pattern name ≡ name_answer listing name
listed_true listing pattern name e = ap (λ (t : Bool). cond t (name_answer listing name) []) e

pub listed_false : (listing : Listing) (pattern name : List ℕ) → is_listed pattern name ≡ false → listed listing pattern name ≡ []
listed_false listing pattern name e = ap (λ (t : Bool). cond t (name_answer listing name) []) e

each_listed : {X : Type 0} (f : X → List ℕ) (listing : Listing) (pattern : List ℕ) (xs : List X) → flat_map (listed listing pattern) (map f xs) ≡ flat_map (λ x. listed listing pattern (f x)) xs
each_listed f listing pattern [] = refl
each_listed f listing pattern (x ∷ xs) = ap (λ (l : List ℕ). listed listing pattern (f x) ++ l) (each_listed f listing pattern xs)

pub list_names : {X : Type 0} (f : X → List ℕ) (listing : Listing) (reference pattern : List ℕ) (xs : List X) → asks_for_root reference pattern ≡ false
    → list_answer listing reference pattern (map f xs) ≡ flat_map (λ x. listed listing (reference ++ pattern) (f x)) xs
list_names f listing reference pattern xs e =
    ap (λ (t : Bool). cond t (root_answer listing) (flat_map (listed listing (reference ++ pattern)) (map f xs))) e ∙ each_listed f listing (reference ++ pattern) xs

pub drop_next : (at : ℕ) (ps : List ℕ) → 0 < at → drop 1 (take (length ps - (at - 1)) (drop (at - 1) ps)) ≡ drop at ps
drop_next at ps h =
    let e : (at - 1) + 1 ≡ at = omega (arith, h) in
    ap (drop 1) (take_rest ps (at - 1)) ∙ drop-drop 1 (at - 1) ps ∙ ap (λ (n : ℕ). drop n ps) e
