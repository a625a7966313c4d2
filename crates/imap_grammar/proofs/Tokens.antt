-- Gaps, words and strings at the front of a text: what is spelled is read, and what is read is spelled.
use Rattle.std.proofs.Common.{◌≡◌, ℕ, suc, ◌+◌, ◌<◌, Bool, true, false, cond, List, [], ◌∷◌, ◌++◌, length, take, drop, refl, ap, sym, subst, ◌∙◌, arith, length-append, append_assoc, inl, inr}
use Rattle.std.specs.Prelude.{Option, Some, None, ◌==◌, ◌&&◌, ◌||◌, not, nat_le}
use Rattle.std.specs.List.{prefix_len}
use Rattle.std.specs.Option.{option_map}
use Rattle.std.proofs.lemmas.List.{take_at, drop_at, take-append-drop}
use Rattle.std.proofs.lemmas.Bool.Decides.{Decides-eqb}
use Rattle.envelope.proofs.Begins.{not_not}
use Rattle.envelope.proofs.Case.{decides_false}
use Rattle.envelope.proofs.Sound.{bind_some, guard_some, either, map_some, many_taken, some_sound}
use Rattle.envelope.proofs.Tails.{stops_after, taken_length, starts_some}
use Rattle.envelope.proofs.Tokens.{Stops, span_len, some_again, first_not}
use Rattle.envelope.proofs.Words.{space_is}
use Rattle.envelope.specs.Bytes.{is_space, is_not_space}
use Rattle.envelope.specs.Names.{value_of, unquoted, begins_quoted}
use Rattle.envelope.specs.Grammar.{Many, Some1, Gap}
use Rattle.envelope.specs.Reading.{◌>>=◌, first_is, some_len, after_spaces}
use Rattle.imap_grammar.specs.Bytes.{is_special, is_quotable}
use Rattle.imap_grammar.specs.Grammar.{Quoted, end, plain, escaped, StringOf}
use Rattle.imap_grammar.specs.Reading.{word_at, quoted_len, string_len, string_at}
use Rattle.imap_grammar.specs.Front.{past_gap}

-- ---- classes

pub not_true : (t : Bool) → not t ≡ true → t ≡ false
not_true true e = absurd cc
not_true false e = refl

-- a space, or the end, ends any class without a space
pub stops_class : (p : ℕ → Bool) → p 32 ≡ false → (text : List ℕ) → Stops is_not_space text → Stops p text
stops_class p out [] s = tt
stops_class p out (x ∷ xs) s = ap p (space_is x (not_not (is_space x) s)) ∙ out

pub starts : (p : ℕ → Bool) → ((b : ℕ) → p b ≡ true → is_space b ≡ false) → (text rest : List ℕ) → Some1 p text → Stops is_space (text ++ rest)
starts p f [] rest h = absurd (omega (arith, h.0))
starts p f (x ∷ xs) rest h = f x h.1.0

pub many_map : (p q : ℕ → Bool) → ((b : ℕ) → p b ≡ true → q b ≡ true) → (text : List ℕ) → Many p text → Many q text
many_map p q f [] h = tt
many_map p q f (x ∷ xs) h = (f x h.0, many_map p q f xs h.1)

pub many_joined : (p : ℕ → Bool) (a b : List ℕ) → Many p a → Many p b → Many p (a ++ b)
many_joined p [] b h k = k
many_joined p (x ∷ xs) b h k = (h.0, many_joined p xs b h.1 k)

pub spaced_first : (text rest : List ℕ) → Gap text → Stops is_not_space (text ++ rest)
spaced_first [] rest h = absurd (omega (arith, h.0))
spaced_first (x ∷ xs) rest h = ap not h.1.0

pub blank_first : (text : List ℕ) → Many is_space text → Stops is_not_space text
blank_first [] h = tt
blank_first (x ∷ xs) h = ap not h.0

-- ---- gaps

pub spaces_over : (g x : List ℕ) → Many is_space g → Stops is_space x → after_spaces (g ++ x) ≡ x
spaces_over g x h s = ap (λ (n : ℕ). drop n (g ++ x)) (span_len is_space g x h s) ∙ drop_at g x (length g) refl

pub gap_again : (g x : List ℕ) → Gap g → Stops is_space x → past_gap (g ++ x) ≡ Some x
gap_again [] x h s = absurd (omega (arith, h.0))
gap_again (b ∷ g) x h s =
    ap (λ (t : Bool). cond t (Some (after_spaces (b ∷ (g ++ x)))) None) h.1.0
    ∙ ap (λ (l : List ℕ). Some l) (spaces_over (b ∷ g) x h.1 s)

pub record FoundGap (bytes rest : List ℕ) : Type 0 where
  pub gap : List ℕ
  pub parts : bytes ≡ gap ++ rest
  pub is : Gap gap
  pub stops : Stops is_space rest

pub some_gap : (b : ℕ) (bs : List ℕ) → is_space b ≡ true → FoundGap (b ∷ bs) (after_spaces (b ∷ bs))
some_gap b bs e =
    let bytes = b ∷ bs in
    let size = taken_length is_space bytes in
    let some = starts_some is_space b bs e in
    record {
      gap = take (prefix_len is_space bytes) bytes;
      parts = sym (take-append-drop (prefix_len is_space bytes) bytes);
      is = (omega arith, many_taken is_space bytes);
      stops = stops_after is_space bytes;
    }

pub gap_sound : (bytes rest : List ℕ) → past_gap bytes ≡ Some rest → FoundGap bytes rest
gap_sound [] rest e = absurd cc
gap_sound (b ∷ bs) rest e =
    let k = guard_some (first_is 32 (b ∷ bs)) (after_spaces (b ∷ bs)) rest e in
    subst (FoundGap (b ∷ bs)) k.1 (some_gap b bs k.0)

-- ---- words

pub word_again : (w rest : List ℕ) → Many is_not_space w → Stops is_not_space rest → word_at (w ++ rest) ≡ (w, rest)
word_again w rest h s =
    let pair : List ℕ → List ℕ → List ℕ × List ℕ = λ a b. (a, b) in
    ap (λ (n : ℕ). pair (take n (w ++ rest)) (drop n (w ++ rest))) (span_len is_not_space w rest h s)
    ∙ ap (λ (l : List ℕ). pair l (drop (length w) (w ++ rest))) (take_at w rest (length w) refl)
    ∙ ap (λ (l : List ℕ). pair w l) (drop_at w rest (length w) refl)

pub word_parts : (bytes : List ℕ) → bytes ≡ (word_at bytes).0 ++ (word_at bytes).1
word_parts bytes = sym (take-append-drop (prefix_len is_not_space bytes) bytes)

pub word_some : (bytes : List ℕ) → 0 < length bytes → Stops is_space bytes → Some1 is_not_space (word_at bytes).0
word_some [] n s = absurd (omega (arith, n))
word_some (x ∷ xs) n s =
    let bytes = x ∷ xs in
    let size = taken_length is_not_space bytes in
    let some = starts_some is_not_space x xs (ap not s) in
    (omega arith, many_taken is_not_space bytes)

-- ---- quoted strings

quotable_is : (x y q k : Bool) → (x && y && not (q || (k || false))) ≡ true → (q ≡ false) × (k ≡ false)
quotable_is true true false false e = (refl, refl)
quotable_is _ _ _ _ e = absurd cc

pub quoted_again : {value text : List ℕ} → Quoted value text → (rest : List ℕ) → quoted_len false (text ++ 34 ∷ rest) ≡ Some (length text + 1)
quoted_again end rest = refl
quoted_again (plain {b} {value} {text} p q) rest =
    let f = quotable_is (nat_le 32 b) (not (b == 127)) (b == 34) (b == 92) p in
    let again = quoted_again q rest in
    ap (λ (t : Bool). cond t (Some 1) (cond ((b == 92) || is_quotable b) (option_map suc (quoted_len (b == 92) (text ++ 34 ∷ rest))) None)) f.0
    ∙ ap (λ (t : Bool). cond (t || is_quotable b) (option_map suc (quoted_len t (text ++ 34 ∷ rest))) None) f.1
    ∙ ap (λ (t : Bool). cond t (option_map suc (quoted_len false (text ++ 34 ∷ rest))) None) p
    ∙ ap (option_map suc) again
    ∙ ap (λ (n : ℕ). Some n) (omega arith)
quoted_again (escaped {b} {value} {text} p q) rest =
    let again = quoted_again q rest in
    ap (λ (t : Bool). option_map suc (cond t (option_map suc (quoted_len false (text ++ 34 ∷ rest))) None)) p
    ∙ ap (λ (o : Option ℕ). option_map suc (option_map suc o)) again
    ∙ ap (λ (n : ℕ). Some n) (omega arith)

pub unquoted_again : {value text : List ℕ} → Quoted value text → (rest : List ℕ) → unquoted false (text ++ 34 ∷ rest) ≡ value
unquoted_again end rest = refl
unquoted_again (plain {b} {value} {text} p q) rest =
    let f = quotable_is (nat_le 32 b) (not (b == 127)) (b == 34) (b == 92) p in
    ap (λ (t : Bool). cond t [] (cond (b == 92) (unquoted true (text ++ 34 ∷ rest)) (b ∷ unquoted false (text ++ 34 ∷ rest)))) f.0
    ∙ ap (λ (t : Bool). cond t (unquoted true (text ++ 34 ∷ rest)) (b ∷ unquoted false (text ++ 34 ∷ rest))) f.1
    ∙ ap (λ (l : List ℕ). b ∷ l) (unquoted_again q rest)
unquoted_again (escaped {b} {value} {text} p q) rest = ap (λ (l : List ℕ). b ∷ l) (unquoted_again q rest)

-- a quoted string that was found behind its first quote; after a backslash is `escaped`
pub record FoundQuoted (bytes : List ℕ) (n : ℕ) : Type 0 where
  pub value : List ℕ
  pub content : List ℕ
  pub rest : List ℕ
  pub parts : bytes ≡ content ++ 34 ∷ rest
  pub is : Quoted value content
  pub size : n ≡ length content + 1

pub record FoundEscaped (bytes : List ℕ) (n : ℕ) : Type 0 where
  pub byte : ℕ
  pub more : List ℕ
  pub special : is_special byte ≡ true
  pub whole : bytes ≡ byte ∷ more
  pub count : ℕ
  pub found : FoundQuoted more count
  pub sized : n ≡ suc count

abbrev pub Found : Bool → List ℕ → ℕ → Type 0
Found false bytes n = FoundQuoted bytes n
Found true bytes n = FoundEscaped bytes n

class_case : (t : Bool) (o : Option ℕ) (n : ℕ) → cond t (option_map suc o) None ≡ Some n → (t ≡ true) × ((m : ℕ) × (o ≡ Some m) × (suc m ≡ n))
class_case false o n e = absurd cc
class_case true None n e = absurd cc
class_case true (Some m) n e = (refl, (m, refl, cc))

one_plain : (b : ℕ) (bs : List ℕ) (m n : ℕ) → is_quotable b ≡ true → suc m ≡ n → FoundQuoted bs m → FoundQuoted (b ∷ bs) n
one_plain b bs m n p s f = record {
  value = b ∷ f.value;
  content = b ∷ f.content;
  rest = f.rest;
  parts = ap (λ (l : List ℕ). b ∷ l) f.parts;
  is = plain p f.is;
  size = omega (arith, f.size);
}

one_escaped : (bs : List ℕ) (m n : ℕ) → suc m ≡ n → FoundEscaped bs m → FoundQuoted (92 ∷ bs) n
one_escaped bs m n s f = record {
  value = f.byte ∷ f.found.value;
  content = 92 ∷ f.byte ∷ f.found.content;
  rest = f.found.rest;
  parts = ap (λ (l : List ℕ). 92 ∷ l) (f.whole ∙ ap (λ (l : List ℕ). f.byte ∷ l) f.found.parts);
  is = escaped f.special f.found.is;
  size = omega (arith, f.found.size, f.sized);
}

backslash : (b : ℕ) (bs : List ℕ) (m n : ℕ) (t : Bool) → (b == 92) ≡ t → ((b == 92) || is_quotable b) ≡ true → suc m ≡ n → Found t bs m → FoundQuoted (b ∷ bs) n
backslash b bs m n true e p s f = subst (λ (x : ℕ). FoundQuoted (x ∷ bs) n) (sym ((Decides-eqb b 92).0 e)) (one_escaped bs m n s f)
backslash b bs m n false e p s f = one_plain b bs m n (sym (ap (λ (t : Bool). t || is_quotable b) e) ∙ p) s f

pub quoted_sound : (e : Bool) (bytes : List ℕ) (n : ℕ) → quoted_len e bytes ≡ Some n → Found e bytes n
quoted_sound true [] n h = absurd cc
quoted_sound false [] n h = absurd cc
quoted_sound true (b ∷ bs) n h =
    let k = class_case (is_special b) (quoted_len false bs) n h in
    record { byte = b; more = bs; special = k.0; whole = refl; count = k.1.0; found = quoted_sound false bs k.1.0 k.1.1; sized = sym k.1.2 }
quoted_sound false (b ∷ bs) n h =
    elim (either (b == 34) (Some 1) (cond ((b == 92) || is_quotable b) (option_map suc (quoted_len (b == 92) bs)) None) (Some n) h) [
      | inl q ↦
          let is : b ≡ 34 = (Decides-eqb b 34).0 q.0 in
          let one : 1 ≡ n = cc in
          record { value = []; content = []; rest = bs; parts = ap (λ (x : ℕ). x ∷ bs) is; is = end; size = sym one }
      | inr q ↦
          let k = class_case ((b == 92) || is_quotable b) (quoted_len (b == 92) bs) n q.1 in
          backslash b bs k.1.0 n (b == 92) refl k.0 k.1.2 (quoted_sound (b == 92) bs k.1.0 k.1.1)
    ]

-- ---- strings

string_of_len : (class : ℕ → Bool) (bytes : List ℕ) (n : ℕ) → string_len class bytes ≡ Some n → string_at class bytes ≡ Some (value_of (take n bytes), drop n bytes)
string_of_len class bytes n e = ap (λ (o : Option ℕ). o >>= (λ k. Some (value_of (take k bytes), drop k bytes))) e

taken : (class : ℕ → Bool) (text rest value : List ℕ) → string_len class (text ++ rest) ≡ Some (length text) → value_of text ≡ value
    → string_at class (text ++ rest) ≡ Some (value, rest)
taken class text rest value e v =
    let pair : List ℕ → List ℕ → Option (List ℕ × List ℕ) = λ a b. Some (a, b) in
    string_of_len class (text ++ rest) (length text) e
    ∙ ap (λ (l : List ℕ). pair (value_of l) (drop (length text) (text ++ rest))) (take_at text rest (length text) refl)
    ∙ ap (λ (l : List ℕ). pair (value_of text) l) (drop_at text rest (length text) refl)
    ∙ ap (λ (l : List ℕ). pair l rest) v

bare_value : (class : ℕ → Bool) (text : List ℕ) → class 34 ≡ false → Some1 class text → value_of text ≡ text
bare_value class text out h = ap (λ (t : Bool). cond t (unquoted false (drop 1 text)) text) (unquoted_first text h)
  where
    unquoted_first : (l : List ℕ) → Some1 class l → begins_quoted l ≡ false
    unquoted_first [] k = refl
    unquoted_first (x ∷ xs) k =
        decides_false (x == 34) (Decides-eqb x 34) (λ (e : x ≡ 34).
        let yes : class x ≡ true = k.1.0 in
        let both : class x ≡ class 34 = ap class e in
        cc)

pub quoted_whole : (class : ℕ → Bool) (content value rest : List ℕ) → Quoted value content → string_at class ((34 ∷ (content ++ 34 ∷ [])) ++ rest) ≡ Some (value, rest)
quoted_whole class content value rest q =
    let text = 34 ∷ (content ++ 34 ∷ []) in
    let len : string_len class (text ++ rest) ≡ Some (length text) =
    ap (λ (s : List ℕ). option_map suc (quoted_len false s)) (append_assoc content (34 ∷ []) rest)
    ∙ ap (option_map suc) (quoted_again q rest)
    ∙ ap (λ (n : ℕ). Some n) (omega (arith, length-append content (34 ∷ []))) in
    taken class text rest value len (unquoted_again q [])

bare_whole : (class : ℕ → Bool) (text rest : List ℕ) → class 34 ≡ false → Some1 class text → Stops class rest → string_at class (text ++ rest) ≡ Some (text, rest)
bare_whole class text rest out h s =
    let len : string_len class (text ++ rest) ≡ Some (length text) =
    ap (λ (t : Bool). cond t (option_map suc (quoted_len false (drop 1 (text ++ rest)))) (some_len class (text ++ rest))) (first_not class 34 text rest out h)
    ∙ some_again class text rest h s in
    taken class text rest text len (bare_value class text out h)

pub between : (text front back middle last a b : List ℕ) → text ≡ front ++ back → front ≡ a → back ≡ middle ++ last → last ≡ b → text ≡ a ++ (middle ++ b)
between text front back middle last a b p q r s = cc

pub string_again : (class : ℕ → Bool) (value text rest : List ℕ) → class 34 ≡ false → StringOf class value text → Stops class rest → string_at class (text ++ rest) ≡ Some (value, rest)
string_again class value text rest out (inl h) s =
    ap (λ (t : List ℕ). string_at class (t ++ rest)) h.0
    ∙ bare_whole class value rest out (subst (Some1 class) h.0 h.1) s
string_again class value text rest out (inr q) s =
    let e = between text q.front q.back q.second.front q.second.back (34 ∷ []) (34 ∷ []) q.parts q.first q.second.parts q.second.second in
    ap (λ (t : List ℕ). string_at class (t ++ rest)) e ∙ quoted_whole class q.second.front value rest q.second.first

pub string_starts : (class : ℕ → Bool) → ((b : ℕ) → class b ≡ true → is_space b ≡ false) → (value text rest : List ℕ) → StringOf class value text → Stops is_space (text ++ rest)
string_starts class f value text rest (inl h) = starts class f text rest h.1
string_starts class f value text rest (inr q) =
    let e = between text q.front q.back q.second.front q.second.back (34 ∷ []) (34 ∷ []) q.parts q.first q.second.parts q.second.second in
    subst (λ (t : List ℕ). Stops is_space (t ++ rest)) (sym e) refl

pub record FoundString (class : ℕ → Bool) (value bytes rest : List ℕ) : Type 0 where
  pub text : List ℕ
  pub parts : bytes ≡ text ++ rest
  pub is : StringOf class value text

quoted_found : (class : ℕ → Bool) (b : ℕ) (bs : List ℕ) (n : ℕ) → b ≡ 34 → FoundQuoted bs n
    → (v r : List ℕ) → v ≡ value_of (take (suc n) (b ∷ bs)) → r ≡ drop (suc n) (b ∷ bs) → FoundString class v (b ∷ bs) r
quoted_found class b bs n is f v r ve re =
    let inner : List ℕ = f.content ++ 34 ∷ [] in
    let size : length inner ≡ n = omega (arith, f.size, length-append f.content (34 ∷ [])) in
    let whole : bs ≡ inner ++ f.rest = f.parts ∙ sym (append_assoc f.content (34 ∷ []) f.rest) in
    let front : take n bs ≡ inner = ap (take n) whole ∙ take_at inner f.rest n size in
    let back : drop n bs ≡ f.rest = ap (drop n) whole ∙ drop_at inner f.rest n size in
    let said : v ≡ f.value =
    ve ∙ ap (λ (l : List ℕ). value_of (b ∷ l)) front ∙ ap (λ (x : ℕ). value_of (x ∷ inner)) is ∙ unquoted_again f.is [] in
    record {
      text = 34 ∷ inner;
      parts = ap (λ (x : ℕ). x ∷ bs) is ∙ ap (λ (l : List ℕ). 34 ∷ l) (whole ∙ ap (λ (l : List ℕ). inner ++ l) (sym (re ∙ back)));
      is = inr (record {
        front = 34 ∷ [];
        back = inner;
        parts = refl;
        first = refl;
        second = record { front = f.content; back = 34 ∷ []; parts = refl; first = subst (λ (l : List ℕ). Quoted l f.content) (sym said) f.is; second = refl };
      });
    }

bare_found : (class : ℕ → Bool) → class 34 ≡ false → (bytes : List ℕ) (n : ℕ) → some_len class bytes ≡ Some n
    → (v r : List ℕ) → v ≡ value_of (take n bytes) → r ≡ drop n bytes → FoundString class v bytes r
bare_found class out bytes n e v r ve re =
    let h = some_sound class bytes n e in
    let said : v ≡ take n bytes = ve ∙ bare_value class (take n bytes) out h in
    record {
      text = take n bytes;
      parts = sym (take-append-drop n bytes) ∙ ap (λ (l : List ℕ). take n bytes ++ l) (sym re);
      is = inl (sym said, h);
    }

found_case : (class : ℕ → Bool) → class 34 ≡ false → (bytes : List ℕ) (n : ℕ) → string_len class bytes ≡ Some n
    → (v r : List ℕ) → v ≡ value_of (take n bytes) → r ≡ drop n bytes → FoundString class v bytes r
found_case class out [] n e v r ve re = bare_found class out [] n e v r ve re
found_case class out (b ∷ bs) n e v r ve re =
    elim (either (b == 34) (option_map suc (quoted_len false bs)) (some_len class (b ∷ bs)) (Some n) e) [
      | inl q ↦
          let k = map_some suc (quoted_len false bs) n q.1 in
          quoted_found class b bs k.0 ((Decides-eqb b 34).0 q.0) (quoted_sound false bs k.0 k.1) v r
          (ve ∙ ap (λ (j : ℕ). value_of (take j (b ∷ bs))) (sym k.2)) (re ∙ ap (λ (j : ℕ). drop j (b ∷ bs)) (sym k.2))
      | inr q ↦ bare_found class out (b ∷ bs) n q.1 v r ve re
    ]

abbrev first_of : Option (List ℕ × List ℕ) → List ℕ
first_of (Some c) = c.0
first_of None = []

abbrev second_of : Option (List ℕ × List ℕ) → List ℕ
second_of (Some c) = c.1
second_of None = []

pub string_sound : (class : ℕ → Bool) → class 34 ≡ false → (bytes v r : List ℕ) → string_at class bytes ≡ Some (v, r) → FoundString class v bytes r
string_sound class out bytes v r e =
    let k = bind_some (string_len class bytes) (λ n. Some (value_of (take n bytes), drop n bytes)) (v, r) e in
    found_case class out bytes k.0 k.1 v r (sym (ap first_of k.2)) (sym (ap second_of k.2))

-- a class without a byte
pub excludes : (p : ℕ → Bool) (c : ℕ) → p c ≡ false → (b : ℕ) → p b ≡ true → not (b == c) ≡ true
excludes p c e b h = ap not (decides_false (b == c) (Decides-eqb b c) (λ (k : b ≡ c). let both : p b ≡ p c = ap p k in cc))
