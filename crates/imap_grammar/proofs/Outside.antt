-- Bytes outside of brackets, text by text.
use Rattle.std.proofs.Common.{◌≡◌, ℕ, Bool, true, false, List, [], ◌∷◌, ◌++◌, refl, ap, sym, subst, ◌∙◌, arith}
use Rattle.std.specs.Prelude.{◌==◌, not, map}
use Rattle.std.specs.Char.{to_ascii_lowercase}
use Rattle.std.proofs.lemmas.Bool.Decides.{nat_tests}
use Rattle.envelope.specs.Grammar.{Keyword, Many}
use Rattle.imap_grammar.specs.Brackets.{in_bracket}
use Rattle.imap_grammar.proofs.Cuts.{is_other}
use Rattle.imap_grammar.proofs.ItemWords.{Outside, open_behind}
use Rattle.imap_grammar.proofs.Keywords.{other_case}
use Rattle.imap_grammar.proofs.Tokens.{not_true}

-- a byte that is neither this nor a bracket that opens
step_other : (c x : ℕ) (xs : List ℕ) (b : Bool) → not (x == c) ≡ true → not (x == 91) ≡ true → Outside c false xs × (open_behind false xs ≡ b) → Outside c false (x ∷ xs) × (open_behind false (x ∷ xs) ≡ b)
step_other c x xs b n m k =
    let o : (x == 91) ≡ false = not_true (x == 91) m in
    ((not_true (x == c) n, subst (λ (t : Bool). Outside c t xs) (sym o) k.0), ap (λ (t : Bool). open_behind t xs) o ∙ k.1)

pub outside_plain : (c : ℕ) (w : List ℕ) → Many (is_other c) w → Many (is_other 91) w → Outside c false w × (open_behind false w ≡ false)
outside_plain c [] h m = (tt, refl)
outside_plain c (x ∷ xs) h m = step_other c x xs false h.0 m.0 (outside_plain c xs h.1 m.1)

-- within a bracket that isn't closed
pub outside_within : (c : ℕ) (w : List ℕ) → Many (is_other 93) w → Outside c true w × (open_behind true w ≡ true)
outside_within c [] m = (tt, refl)
outside_within c (x ∷ xs) m =
    let k = outside_within c xs m.1 in
    ((refl, subst (λ (t : Bool). Outside c t xs) (sym m.0) k.0), ap (λ (t : Bool). open_behind t xs) m.0 ∙ k.1)

pub both_behind : (s : Bool) (a b : List ℕ) (t : Bool) → open_behind s a ≡ t → open_behind s (a ++ b) ≡ open_behind t b
both_behind s [] b t e = ap (λ (u : Bool). open_behind u b) e
both_behind s (x ∷ a) b t e = both_behind (in_bracket s x) a b t e

pub both_outside : (c : ℕ) (s : Bool) (a b : List ℕ) (t : Bool) → Outside c s a → open_behind s a ≡ t → Outside c t b → Outside c s (a ++ b)
both_outside c s [] b t h e k = subst (λ (u : Bool). Outside c u b) (sym e) k
both_outside c s (x ∷ a) b t h e k = (h.0, both_outside c (in_bracket s x) a b t h.1 e k)

bracket_case : (x : ℕ) → to_ascii_lowercase x ≡ 91 → x ≡ 91
bracket_case x e = grind (arith, nat_tests)

-- a word, and a bracket that opens behind it
pub opened_word : (c : ℕ) (word kw : List ℕ) → to_ascii_lowercase c ≡ c → Many (is_other c) (map to_ascii_lowercase word) → Many (is_other 91) (map to_ascii_lowercase word)
    → not (91 == c) ≡ true → Keyword (word ++ 91 ∷ []) kw → Outside c false kw × (open_behind false kw ≡ true)
opened_word c [] [] e m n b h = absurd cc
opened_word c [] (x ∷ []) e m n b h =
    let low : to_ascii_lowercase x ≡ 91 = cc in
    let is : x ≡ 91 = bracket_case x low in
    ((ap (λ (y : ℕ). y == c) is ∙ not_true (91 == c) b, tt), ap (λ (y : ℕ). y == 91) is)
opened_word c [] (x ∷ y ∷ kw) e m n b h = absurd cc
opened_word c (a ∷ word) [] e m n b h = absurd cc
opened_word c (a ∷ word) (x ∷ kw) e m n b h =
    let one : to_ascii_lowercase x ≡ to_ascii_lowercase a = cc in
    let others : map to_ascii_lowercase kw ≡ map to_ascii_lowercase (word ++ 91 ∷ []) = cc in
    step_other c x kw true (other_case c x e (ap (λ (y : ℕ). not (y == c)) one ∙ m.0)) (other_case 91 x refl (ap (λ (y : ℕ). not (y == 91)) one ∙ n.0)) (opened_word c word kw e m.1 n.1 b others)
