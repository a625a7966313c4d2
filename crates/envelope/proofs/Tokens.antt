-- What is spelled by the grammar is read so, whatever follows it.
use Rattle.std.proofs.Common.{◌≡◌, ℕ, suc, ◌+◌, Bool, true, false, cond, List, [], ◌∷◌, ◌++◌, length, take, drop, refl, ap, sym, subst, ◌∙◌, arith, length-append, append_assoc, inl, inr}
use Rattle.std.specs.Prelude.{Option, Some, None, ◌==◌, ◌&&◌, ◌||◌, not}
use Rattle.std.specs.List.{prefix_len}
use Rattle.std.specs.Option.{option_map}
use Rattle.std.proofs.lemmas.List.{take_at, drop_at}
use Rattle.std.proofs.lemmas.Bool.Decides.{Decides-eqb}
use Rattle.envelope.proofs.Case.{decides_false}
use Rattle.envelope.specs.Values.{Address}
use Rattle.envelope.specs.Bytes.{is_text, is_atom, is_name, is_literal}
use Rattle.envelope.specs.Grammar.{Many, Some1, Quoted, end, plain, escaped, LocalPart, Domain, Spells}
use Rattle.envelope.specs.Reading.{◌>>=◌, first_is, some_len, quoted_len, local_len, literal_len, domain_len, past_byte, address_at}

-- the text doesn't begin with a byte of the class
abbrev pub Stops : (ℕ → Bool) → List ℕ → Type 0
Stops p [] = Unit {0}
Stops p (b ∷ bs) = p b ≡ false

none_first : (p : ℕ → Bool) (b : List ℕ) → Stops p b → prefix_len p b ≡ 0
none_first p [] h = refl
none_first p (x ∷ xs) h = ap (λ (t : Bool). cond t (1 + prefix_len p xs) 0) h

pub span_len : (p : ℕ → Bool) (a b : List ℕ) → Many p a → Stops p b → prefix_len p (a ++ b) ≡ length a
span_len p [] b h s = none_first p b s
span_len p (x ∷ xs) b h s =
    let rest = span_len p xs b h.1 s in
    ap (λ (t : Bool). cond t (1 + prefix_len p (xs ++ b)) 0) h.0 ∙ omega (arith, rest)

pub some_again : (p : ℕ → Bool) (a b : List ℕ) → Some1 p a → Stops p b → some_len p (a ++ b) ≡ Some (length a)
some_again p a b h s =
    ap (λ (n : ℕ). cond (n == 0) None (Some n)) (span_len p a b h.1 s)
    ∙ ap (λ (t : Bool). cond t None (Some (length a))) (decides_false (length a == 0) (Decides-eqb (length a) 0) (λ e. omega arith))

-- ---- quoted strings

quotable_is : (t back quote : Bool) → (t && not (back || (quote || false))) ≡ true → (t ≡ true) × (back ≡ false) × (quote ≡ false)
quotable_is true false false e = (refl, refl, refl)
quotable_is true true quote e = absurd cc
quotable_is true false true e = absurd cc
quotable_is false back quote e = absurd cc

pub quoted_again : {text : List ℕ} → Quoted text → (rest : List ℕ) → quoted_len false (text ++ 34 ∷ rest) ≡ Some (length text + 1)
quoted_again end rest = refl
quoted_again (plain {b} {text} p q) rest =
    let f = quotable_is (is_text b) (b == 92) (b == 34) p in
    let again = quoted_again q rest in
    ap (λ (t : Bool). cond t (Some 1) (cond (is_text b) (option_map suc (quoted_len (b == 92) (text ++ 34 ∷ rest))) None)) f.2
    ∙ ap (λ (t : Bool). cond t (option_map suc (quoted_len (b == 92) (text ++ 34 ∷ rest))) None) f.0
    ∙ ap (λ (t : Bool). option_map suc (quoted_len t (text ++ 34 ∷ rest))) f.1
    ∙ ap (option_map suc) again
    ∙ ap (λ (n : ℕ). Some n) (omega arith)
quoted_again (escaped {b} {text} p q) rest =
    let again = quoted_again q rest in
    ap (λ (t : Bool). option_map suc (cond t (option_map suc (quoted_len false (text ++ 34 ∷ rest))) None)) p
    ∙ ap (λ (o : Option ℕ). option_map suc (option_map suc o)) again
    ∙ ap (λ (n : ℕ). Some n) (omega arith)

-- ---- local parts

pub first_not : (p : ℕ → Bool) (c : ℕ) (text rest : List ℕ) → p c ≡ false → Some1 p text → first_is c (text ++ rest) ≡ false
first_not p c [] rest other h = absurd (omega (arith, h.0))
first_not p c (x ∷ xs) rest other h =
    decides_false (x == c) (Decides-eqb x c) (λ (e : x ≡ c).
    let yes : p x ≡ true = h.1.0 in
    let both : p x ≡ p c = ap p e in
    cc)

-- one text between two others
between : (text front back middle last a b : List ℕ) → text ≡ front ++ back → front ≡ a → back ≡ middle ++ last → last ≡ b → text ≡ a ++ (middle ++ b)
between text front back middle last a b p q r s = cc

local_choice : (t : Bool) (bytes : List ℕ) → first_is 34 bytes ≡ t
    → local_len bytes ≡ cond t (option_map suc (quoted_len false (drop 1 bytes))) (some_len is_atom bytes)
local_choice t bytes e = ap (λ (u : Bool). cond u (option_map suc (quoted_len false (drop 1 bytes))) (some_len is_atom bytes)) e

quoted_local : (middle rest : List ℕ) → Quoted middle → local_len ((34 ∷ (middle ++ 34 ∷ [])) ++ rest) ≡ Some (length (34 ∷ (middle ++ 34 ∷ [])))
quoted_local middle rest q =
    ap (λ (s : List ℕ). option_map suc (quoted_len false s)) (append_assoc middle (34 ∷ []) rest)
    ∙ ap (option_map suc) (quoted_again q rest)
    ∙ ap (λ (n : ℕ). Some n) (omega (arith, length-append middle (34 ∷ [])))

pub local_again : (text rest : List ℕ) → LocalPart text → Stops is_atom rest → local_len (text ++ rest) ≡ Some (length text)
local_again text rest (inl q) s =
    let e = between text q.front q.back q.second.front q.second.back (34 ∷ []) (34 ∷ []) q.parts q.first q.second.parts q.second.second in
    subst (λ (t : List ℕ). local_len (t ++ rest) ≡ Some (length t)) (sym e) (quoted_local q.second.front rest q.second.first)
local_again text rest (inr h) s =
    local_choice false (text ++ rest) (first_not is_atom 34 text rest refl h) ∙ some_again is_atom text rest h s

-- ---- domains

domain_choice : (t : Bool) (bytes : List ℕ) → first_is 91 bytes ≡ t
    → domain_len bytes ≡ cond t (option_map suc (literal_len (drop 1 bytes))) (some_len is_name bytes)
domain_choice t bytes e = ap (λ (u : Bool). cond u (option_map suc (literal_len (drop 1 bytes))) (some_len is_name bytes)) e

literal_again : (middle rest : List ℕ) → Some1 is_literal middle → literal_len (middle ++ 93 ∷ rest) ≡ Some (suc (length middle))
literal_again middle rest h =
    ap (λ (o : Option ℕ). o >>= (λ n. cond (first_is 93 (drop n (middle ++ 93 ∷ rest))) (Some (suc n)) None)) (some_again is_literal middle (93 ∷ rest) h refl)
    ∙ ap (λ (l : List ℕ). cond (first_is 93 l) (Some (suc (length middle))) None) (drop_at middle (93 ∷ rest) (length middle) refl)

bracketed : (middle rest : List ℕ) → Some1 is_literal middle → domain_len ((91 ∷ (middle ++ 93 ∷ [])) ++ rest) ≡ Some (length (91 ∷ (middle ++ 93 ∷ [])))
bracketed middle rest h =
    ap (λ (s : List ℕ). option_map suc (literal_len s)) (append_assoc middle (93 ∷ []) rest)
    ∙ ap (option_map suc) (literal_again middle rest h)
    ∙ ap (λ (n : ℕ). Some n) (omega (arith, length-append middle (93 ∷ [])))

pub domain_again : (text rest : List ℕ) → Domain text → Stops is_name rest → domain_len (text ++ rest) ≡ Some (length text)
domain_again text rest (inl h) s =
    domain_choice false (text ++ rest) (first_not is_name 91 text rest refl h) ∙ some_again is_name text rest h s
domain_again text rest (inr q) s =
    let e = between text q.front q.back q.second.front q.second.back (91 ∷ []) (93 ∷ []) q.parts q.first q.second.parts q.second.second in
    subst (λ (t : List ℕ). domain_len (t ++ rest) ≡ Some (length t)) (sym e) (bracketed q.second.front rest q.second.first)

-- ---- addresses

address_steps : (bytes mid : List ℕ) (n m : ℕ) → local_len bytes ≡ Some n → past_byte 64 (drop n bytes) ≡ Some mid → domain_len mid ≡ Some m
    → address_at bytes ≡ Some (record { local = take n bytes; domain = take m mid }, drop m mid)
address_steps bytes mid n m a b c =
    let third : ℕ → List ℕ → ℕ → Option (Address × List ℕ) = λ k r j. Some (record { local = take k bytes; domain = take j r }, drop j r) in
    ap (λ (o : Option ℕ). o >>= (λ k. past_byte 64 (drop k bytes) >>= (λ r. domain_len r >>= third k r))) a
    ∙ ap (λ (o : Option (List ℕ)). o >>= (λ r. domain_len r >>= third n r)) b
    ∙ ap (λ (o : Option ℕ). o >>= third n mid) c

parted : (l d rest : List ℕ) → address_at (l ++ 64 ∷ (d ++ rest)) ≡ Some (record { local = take (length l) (l ++ 64 ∷ (d ++ rest)); domain = take (length d) (d ++ rest) }, drop (length d) (d ++ rest))
    → address_at (l ++ 64 ∷ (d ++ rest)) ≡ Some (record { local = l; domain = d }, rest)
parted l d rest e = e ∙ rw (take_at l (64 ∷ (d ++ rest)) (length l) refl, take_at d rest (length d) refl, drop_at d rest (length d) refl) refl

pub address_again : (a : Address) (text rest : List ℕ) → Spells a text → Stops is_name rest → address_at (text ++ rest) ≡ Some (a, rest)
address_again a text rest h s =
    let l = a.local in
    let d = a.domain in
    let whole : text ++ rest ≡ l ++ 64 ∷ (d ++ rest) = ap (λ (t : List ℕ). t ++ rest) h.parts ∙ simp append_assoc in
    let at : past_byte 64 (drop (length l) (l ++ 64 ∷ (d ++ rest))) ≡ Some (d ++ rest) = ap (past_byte 64) (drop_at l (64 ∷ (d ++ rest)) (length l) refl) in
    ap address_at whole
    ∙ parted l d rest (address_steps (l ++ 64 ∷ (d ++ rest)) (d ++ rest) (length l) (length d) (local_again l (64 ∷ (d ++ rest)) h.local refl) at (domain_again d rest h.domain s))
