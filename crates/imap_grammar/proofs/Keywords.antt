-- Words in upper or lower case.
use Rattle.std.proofs.Common.{◌≡◌, ℕ, zero, suc, Bool, true, cond, List, [], ◌∷◌, ◌++◌, length, take, drop, refl, ap, sym, ◌∙◌}
use Rattle.std.specs.Prelude.{Some, None, ◌==◌, not, map}
use Rattle.std.specs.Char.{to_ascii_lowercase}
use Rattle.std.specs.Str.{str_eq_ignore_ascii_case as is_same}
use Rattle.std.proofs.lemmas.Bool.Decides.{Decides-eqb}
use Rattle.std.proofs.lemmas.List.{length-map, map-append, take_at, drop_at, take-append-drop}
use Rattle.envelope.proofs.Case.{decides_false, is_same_decides}
use Rattle.envelope.proofs.Sound.{guard_some}
use Rattle.envelope.specs.Grammar.{Keyword, Many}
use Rattle.envelope.specs.Reading.{past_keyword}
use Rattle.imap_grammar.proofs.Cuts.{is_other}

pub word_length : (word text : List ℕ) → Keyword word text → length text ≡ length word
word_length word text h = sym (length-map text to_ascii_lowercase) ∙ ap length h ∙ length-map word to_ascii_lowercase

pub other_case : (c x : ℕ) → to_ascii_lowercase c ≡ c → not (to_ascii_lowercase x == c) ≡ true → not (x == c) ≡ true
other_case c x e h =
    ap not (decides_false (x == c) (Decides-eqb x c) (λ (k : x ≡ c).
    let low : to_ascii_lowercase x ≡ c = ap to_ascii_lowercase k ∙ e in
    let yes : (to_ascii_lowercase x == c) ≡ true = (Decides-eqb (to_ascii_lowercase x) c).1 low in
    cc))

-- a byte that has no case stands in the text only where it stands in the word
pub word_clean : (c : ℕ) → to_ascii_lowercase c ≡ c → (text low : List ℕ) → map to_ascii_lowercase text ≡ low → Many (is_other c) low → Many (is_other c) text
word_clean c e [] low h m = tt
word_clean c e (x ∷ xs) [] h m = absurd cc
word_clean c e (x ∷ xs) (y ∷ ys) h m =
    let one : to_ascii_lowercase x ≡ y = cc in
    let others : map to_ascii_lowercase xs ≡ ys = cc in
    (other_case c x e (ap (λ (b : ℕ). not (b == c)) one ∙ m.0), word_clean c e xs ys others m.1)

-- what follows a keyword
pub past_again : (word text rest : List ℕ) → Keyword word text → past_keyword word (text ++ rest) ≡ Some rest
past_again word text rest h =
    let n = word_length word text h in
    let same : is_same text word ≡ true = (is_same_decides text word).1 h in
    ap (λ (l : List ℕ). cond (is_same l word) (Some (drop (length word) (text ++ rest))) None) (take_at text rest (length word) n)
    ∙ ap (λ (t : Bool). cond t (Some (drop (length word) (text ++ rest))) None) same
    ∙ ap (λ (l : List ℕ). Some l) (drop_at text rest (length word) n)

pub record FoundKeyword (word bytes rest : List ℕ) : Type 0 where
  pub text : List ℕ
  pub parts : bytes ≡ text ++ rest
  pub is : Keyword word text

pub past_sound : (word bytes rest : List ℕ) → past_keyword word bytes ≡ Some rest → FoundKeyword word bytes rest
past_sound word bytes rest e =
    let k = guard_some (is_same (take (length word) bytes) word) (drop (length word) bytes) rest e in
    record {
      text = take (length word) bytes;
      parts = sym (take-append-drop (length word) bytes) ∙ ap (λ (l : List ℕ). take (length word) bytes ++ l) k.1;
      is = (is_same_decides (take (length word) bytes) word).0 k.0;
    }

pub same_sound : (word text : List ℕ) → is_same text word ≡ true → Keyword word text
same_sound word text e = (is_same_decides text word).0 e

-- a keyword and more is lowered in parts
pub lowered : (word text rest : List ℕ) → Keyword word text → map to_ascii_lowercase (text ++ rest) ≡ map to_ascii_lowercase word ++ map to_ascii_lowercase rest
lowered word text rest h = map-append to_ascii_lowercase text rest ∙ ap (λ (l : List ℕ). l ++ map to_ascii_lowercase rest) h

pub map_take : (n : ℕ) (text : List ℕ) → map to_ascii_lowercase (take n text) ≡ take n (map to_ascii_lowercase text)
map_take zero text = refl
map_take (suc n) [] = refl
map_take (suc n) (x ∷ xs) = ap (λ (l : List ℕ). to_ascii_lowercase x ∷ l) (map_take n xs)
