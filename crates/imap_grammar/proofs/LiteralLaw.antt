-- Literals at the end of a line: what is announced is spelled, and what is spelled is announced. And texts in quotes.
use Rattle.std.proofs.Common.{◌≡◌, ℕ, suc, ◌<◌, ◌≤◌, Bool, true, false, cond, List, [], ◌∷◌, ◌++◌, length, take, drop, refl, ap, sym, subst, ◌∙◌, arith, length-take}
use Rattle.std.specs.Prelude.{Option, Some, None, codes, ◌==◌, ◌||◌}
use Rattle.std.specs.List.{list_all}
use Rattle.std.proofs.lemmas.List.{take-append-drop}
use Rattle.std.proofs.lemmas.Bool.Decides.{Decides-eqb}
use Rattle.envelope.proofs.Sound.{bind_some, guard_some}
use Rattle.envelope.proofs.Words.{append_none, both_true}
use Rattle.envelope.specs.Grammar.{Many, Exactly, ◌⨾◌}
use Rattle.envelope.specs.Reading.{◌>>=◌}
use Rattle.imap_grammar.specs.Bytes.{is_digit, is_quotable, is_special}
use Rattle.imap_grammar.specs.Grammar.{LiteralIs, Quoted, end, plain, escaped}
use Rattle.imap_grammar.specs.Literals.{position_or, last_position, literal_alone, announced, backslashed, quoted}
use Rattle.imap_grammar.specs.Reading.{literal_at}
use Rattle.imap_grammar.specs.declared.command.Literal.{Literal}
use Rattle.imap_grammar.proofs.AppendLaw.{closing, literal_again, literal_sound}
use Rattle.imap_grammar.proofs.Chains.{inside}
use Rattle.imap_grammar.proofs.Cuts.{is_other}
use Rattle.imap_grammar.proofs.Tokens.{excludes, many_map, many_joined, not_true}

-- ---- the last byte of some value

last_bound : (b : ℕ) (xs : List ℕ) (n : ℕ) → last_position b xs ≡ Some n → n < length xs
last_bound b [] n e = absurd cc
last_bound b (x ∷ xs) n e = by (last_position b xs) (x == b) (λ m h. last_bound b xs m h) e
  where
    by : (o : Option ℕ) (t : Bool) → ((m : ℕ) → o ≡ Some m → m < length xs) → position_or o t ≡ Some n → n < suc (length xs)
    by (Some m) t below k =
        let same : suc m ≡ n = cc in
        omega (arith, below m refl, same)
    by None true below k =
        let same : 0 ≡ n = cc in
        omega (arith, same)
    by None false below k = absurd cc

none_last : (b : ℕ) (xs : List ℕ) → Many (is_other b) xs → last_position b xs ≡ None
none_last b [] h = refl
none_last b (x ∷ xs) h =
    ap (λ o. position_or o (x == b)) (none_last b xs h.1) ∙ ap (λ (t : Bool). cond t (Some 0) None) (not_true (x == b) h.0)

last_at : (b : ℕ) (front back : List ℕ) → Many (is_other b) back → last_position b (front ++ b ∷ back) ≡ Some (length front)
last_at b [] back h =
    ap (λ o. position_or o (b == b)) (none_last b back h) ∙ ap (λ (t : Bool). cond t (Some 0) None) ((Decides-eqb b b).1 refl)
last_at b (x ∷ xs) back h = ap (λ o. position_or o (x == b)) (last_at b xs back h)

-- ---- a literal and nothing more

empty : (xs : List ℕ) → (length xs == 0) ≡ true → xs ≡ []
empty [] e = refl
empty (x ∷ xs) e = absurd (let same : suc (length xs) ≡ 0 = (Decides-eqb (suc (length xs)) 0).0 e in omega (arith, same))

if_alone : Literal × List ℕ → Option Literal
if_alone read = cond (length read.1 == 0) (Some read.0) None

alone_again : (l : Literal) (text : List ℕ) → LiteralIs l text → literal_alone text ≡ Some l
unfolding if_alone
alone_again l text q =
    ap (λ t. literal_at t >>= if_alone) (sym (append_none text)) ∙ ap (λ o. o >>= if_alone) (literal_again l text [] q)

alone_sound : (l : Literal) (bytes : List ℕ) → literal_alone bytes ≡ Some l → LiteralIs l bytes
unfolding if_alone
alone_sound l bytes e =
    let a = bind_some (literal_at bytes) if_alone l e in
    let g = guard_some (length a.0.1 == 0) a.0.0 l a.2 in
    let f = literal_sound bytes a.0 a.1 in
    let whole : bytes ≡ f.text = f.parts ∙ ap (λ t. f.text ++ t) (empty a.0.1 g.0) ∙ append_none f.text in
    subst (λ x. LiteralIs x bytes) g.1 (subst (LiteralIs a.0.0) (sym whole) f.is)

-- only the first byte of a literal is a brace that opens
closing_clean : (waits : Bool) → Many (is_other 123) (closing waits)
unfolding closing
closing_clean true = (refl, tt)
closing_clean false = (refl, (refl, tt))

literal_front : (l : Literal) (text : List ℕ) → LiteralIs l text → (back : List ℕ) × (text ≡ 123 ∷ back) × Many (is_other 123) back
unfolding closing
literal_front l text q = (
  q.back,
  q.parts ∙ ap (λ t. t ++ q.back) q.first,
  subst (Many (is_other 123)) (sym q.second.parts)
      (many_joined (is_other 123) q.second.front q.second.back (many_map is_digit (is_other 123) (λ b e. excludes is_digit 123 refl b e) q.second.front q.second.first.0.1)
      (subst (Many (is_other 123)) (sym q.second.second) (closing_clean l.waits))),
)

-- ---- what a line announces

with_literal : ℕ → Literal → Option (ℕ × Literal)
with_literal n l = Some (n, l)

at_brace : List ℕ → ℕ → Option (ℕ × Literal)
at_brace line n = literal_alone (drop n line) >>= with_literal n

pub announced_sound : (line : List ℕ) (n : ℕ) (l : Literal) → announced line ≡ Some (n, l) → (n ≤ length line) × LiteralIs l (drop n line)
unfolding announced with_literal at_brace
announced_sound line n l e =
    let x : ℕ × Literal = (n, l) in
    let a = bind_some (last_position 123 line) (at_brace line) x e in
    let b = bind_some (literal_alone (drop a.0 line)) (with_literal a.0) x a.2 in
    let y : ℕ × Literal = (a.0, b.0) in
    let is : y ≡ x = inside y x b.2 in
    let bound = last_bound 123 line a.0 a.1 in
    let le : a.0 ≤ length line = omega (arith, bound) in
    subst (λ (z : ℕ × Literal). (z.0 ≤ length line) × LiteralIs z.1 (drop z.0 line)) is (le, alone_sound b.0 (drop a.0 line) b.1)

pub announced_again : (line : List ℕ) (n : ℕ) (l : Literal) → n ≤ length line → LiteralIs l (drop n line) → announced line ≡ Some (n, l)
unfolding announced with_literal at_brace
announced_again line n l le q =
    let f = literal_front l (drop n line) q in
    let whole : line ≡ take n line ++ 123 ∷ f.0 = sym (take-append-drop n line) ∙ ap (λ t. take n line ++ t) f.1 in
    let size : length (take n line) ≡ n = omega (arith, le, length-take n line) in
    let last : last_position 123 line ≡ Some n = ap (last_position 123) whole ∙ last_at 123 (take n line) f.0 f.2 ∙ ap (λ (k : ℕ). Some k) size in
    ap (λ o. o >>= at_brace line) last ∙ ap (λ o. o >>= with_literal n) (alone_again l (drop n line) q)

-- ---- texts in quotes

or_other : (a b : Bool) → (a || b) ≡ true → b ≡ false → a ≡ true
or_other true b e n = refl
or_other false b e n = absurd cc

backslashed_is : (text : List ℕ) → list_all (λ b. is_quotable b || is_special b) text ≡ true → Quoted text (backslashed text)
backslashed_is [] e = end
backslashed_is (b ∷ bs) e =
    let k = both_true (is_quotable b || is_special b) (list_all (λ x. is_quotable x || is_special x) bs) e in
    by (is_special b) refl k.0 (backslashed_is bs k.1)
  where
    by : (t : Bool) → is_special b ≡ t → (is_quotable b || is_special b) ≡ true → Quoted bs (backslashed bs)
        → Quoted (b ∷ bs) (cond t (92 ∷ b ∷ backslashed bs) (b ∷ backslashed bs))
    by true s o q = escaped s q
    by false s o q = plain (or_other (is_quotable b) (is_special b) o s) q

pub quoted_is : (text : List ℕ) → list_all (λ b. is_quotable b || is_special b) text ≡ true → (Exactly (codes "\"") ⨾ Quoted text ⨾ Exactly (codes "\"")) (quoted text)
quoted_is text e = record {
  front = 34 ∷ [];
  back = backslashed text ++ 34 ∷ [];
  parts = refl;
  first = refl;
  second = record { front = backslashed text; back = 34 ∷ []; parts = refl; first = backslashed_is text e; second = refl };
}
