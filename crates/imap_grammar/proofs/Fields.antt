-- Names of header fields: what is spelled is read, and what is read is spelled.
use Rattle.std.proofs.Common.{◌≡◌, ℕ, zero, suc, ◌<◌, ◌≤◌, Bool, true, false, cond, List, [], ◌∷◌, ◌++◌, length, take, drop, refl, ap, sym, subst, ◌∙◌, arith, inl, inr}
use Rattle.std.specs.Prelude.{Option, Some, None, is_some, ◌==◌, ◌&&◌, ◌||◌, ◌⊎◌, not, map}
use Rattle.std.specs.Char.{to_ascii_lowercase}
use Rattle.std.specs.List.{list_all, filter_map, cons_option, slice_split}
use Rattle.std.specs.Str.{bytes_eq, str_eq_ignore_ascii_case as is_same}
use Rattle.std.proofs.lemmas.Bool.Decides.{Decides-eqb}
use Rattle.std.proofs.lemmas.List.{take-append-le}
use Rattle.envelope.proofs.Case.{decides_false}
use Rattle.envelope.proofs.Sound.{bind_some, byte_sound, guard_some}
use Rattle.envelope.proofs.Tails.{each_of}
use Rattle.envelope.proofs.Words.{both_true, all_of, is_both}
use Rattle.envelope.specs.Bytes.{is_space}
use Rattle.envelope.specs.Grammar.{Keyword, Many, Some1, Exactly, ◌⨾◌}
use Rattle.envelope.specs.Reading.{◌>>=◌, past_byte, past_keyword}
use Rattle.imap_grammar.specs.Bytes.{is_field_byte}
use Rattle.imap_grammar.specs.Cuts.{cut_at}
use Rattle.imap_grammar.specs.Grammar.{FieldName, QuotedField, Separated}
use Rattle.imap_grammar.specs.Items.{is_word_of, is_field_name, quoted_name, fields_of}
use Rattle.imap_grammar.specs.declared.items.BodyPart.{BodyPart}
use Rattle.imap_grammar.specs.declared.items.BodyPart.TheVariants as parts
use Rattle.imap_grammar.proofs.Cuts.{is_other, cut_sound, cut_again}
use Rattle.imap_grammar.proofs.Keywords.{word_length, same_sound, map_take}
use Rattle.imap_grammar.proofs.Separated.{AllRead, parts_again, parts_sound}
use Rattle.imap_grammar.proofs.Tokens.{excludes, many_map, many_joined}

-- ---- words of a class

has_some : (w : List ℕ) → 0 < length w → not (length w == 0) ≡ true
has_some w h = ap not (decides_false (length w == 0) (Decides-eqb (length w) 0) (λ e. omega arith))

some_of : (w : List ℕ) → not (length w == 0) ≡ true → 0 < length w
some_of [] e = absurd cc
some_of (x ∷ xs) e = omega arith

pub word_of_again : (p : ℕ → Bool) (w : List ℕ) → Some1 p w → is_word_of p w ≡ true
word_of_again p w h = is_both (list_all p w) (not (length w == 0)) (all_of p p w (λ b e. e) h.1) (has_some w h.0)

pub word_of_sound : (p : ℕ → Bool) (w : List ℕ) → is_word_of p w ≡ true → Some1 p w
word_of_sound p w e = let b = both_true (list_all p w) (not (length w == 0)) e in (some_of w b.1, each_of p w b.0)

-- ---- keywords that aren't there

take_short : (n : ℕ) (xs : List ℕ) → length (take n xs) ≤ length xs
take_short zero xs = omega arith
take_short (suc n) [] = omega arith
take_short (suc n) (x ∷ xs) = omega (arith, take_short n xs)

pub past_short : (word text : List ℕ) → length text < length word → past_keyword word text ≡ None
past_short word text h =
    ap (λ (t : Bool). cond t (Some (drop (length word) text)) None) (by (is_same (take (length word) text) word) refl)
  where
    by : (t : Bool) → is_same (take (length word) text) word ≡ t → t ≡ false
    by true e =
        let n = word_length word (take (length word) text) (same_sound word (take (length word) text) e) in
        absurd (omega (arith, n, h, take_short (length word) text))
    by false e = refl

pub word_differs : (short word kw rest : List ℕ) → Keyword word kw → length short ≤ length word → bytes_eq (take (length short) (map to_ascii_lowercase word)) (map to_ascii_lowercase short) ≡ false
    → is_same (take (length short) (kw ++ rest)) short ≡ false
word_differs short word kw rest h le d =
    let n = word_length word kw h in
    ap (λ (l : List ℕ). bytes_eq (map to_ascii_lowercase l) (map to_ascii_lowercase short)) (take-append-le (length short) kw rest (omega (arith, n, le)))
    ∙ ap (λ (l : List ℕ). bytes_eq l (map to_ascii_lowercase short)) (map_take (length short) kw ∙ ap (take (length short)) h)
    ∙ d

-- ---- names

-- a name between quotes

quoted_text : (text : List ℕ) → QuotedField text → (name : List ℕ) × (text ≡ 34 ∷ (name ++ 34 ∷ [])) × Some1 is_field_byte name
quoted_text text q = (
  q.second.front,
  q.parts ∙ ap (λ l. l ++ q.back) q.first ∙ ap (λ l. 34 ∷ l) (q.second.parts ∙ ap (λ l. q.second.front ++ l) q.second.second),
  q.second.first,
)

quoted_end : List ℕ × List ℕ → Option (List ℕ)
quoted_end cut = cond ((length cut.1 == 0) && is_word_of is_field_byte cut.0) (Some cut.0) None

quoted_again : (text : List ℕ) → QuotedField text → is_some (quoted_name text) ≡ true
unfolding quoted_end
quoted_again text q =
    let k = quoted_text text q in
    let none : List ℕ = [] in
    let pair : List ℕ × List ℕ = (k.0, none) in
    let clean : Many (is_other 34) k.0 = many_map is_field_byte (is_other 34) (λ b e. excludes is_field_byte 34 refl b e) k.0 k.2.1 in
    let cut : cut_at 34 (k.0 ++ 34 ∷ []) ≡ Some pair = cut_again 34 k.0 none clean in
    ap (λ l. is_some (quoted_name l)) k.1
    ∙ ap (λ o. is_some (o >>= quoted_end)) cut
    ∙ ap (λ (t : Bool). is_some (cond t (Some k.0) None)) (word_of_again is_field_byte k.0 k.2)

empty : (xs : List ℕ) → (length xs == 0) ≡ true → xs ≡ []
empty [] e = refl
empty (x ∷ xs) e = absurd (let same : suc (length xs) ≡ 0 = (Decides-eqb (suc (length xs)) 0).0 e in omega (arith, same))

quoted_found : (text name : List ℕ) → quoted_name text ≡ Some name → QuotedField text
unfolding quoted_end
quoted_found text name e =
    let a = bind_some (past_byte 34 text) (λ inner. cut_at 34 inner >>= quoted_end) name e in
    let c = bind_some (cut_at 34 a.0) quoted_end name a.2 in
    let g = guard_some ((length c.0.1 == 0) && is_word_of is_field_byte c.0.0) c.0.0 name c.2 in
    let b = both_true (length c.0.1 == 0) (is_word_of is_field_byte c.0.0) g.0 in
    let w = cut_sound 34 a.0 c.0.0 c.0.1 c.1 in
    record {
      front = 34 ∷ [];
      back = a.0;
      parts = byte_sound 34 text a.0 a.1;
      first = refl;
      second = record {
        front = c.0.0;
        back = 34 ∷ [];
        parts = w.whole ∙ ap (λ l. c.0.0 ++ 34 ∷ l) (empty c.0.1 b.0);
        first = word_of_sound is_field_byte c.0.0 b.1;
        second = refl;
      };
    }

quoted_sound : (text : List ℕ) (o : Option (List ℕ)) → quoted_name text ≡ o → is_some o ≡ true → QuotedField text
quoted_sound text None e h = absurd cc
quoted_sound text (Some name) e h = quoted_found text name e

-- in quotes or without

either_true : (a b : Bool) (P : Type 0) → (a ≡ true → P) → (b ≡ true → P) → (a || b) ≡ true → P
either_true true b P f g e = f refl
either_true false b P f g e = g e

or_second : (a b : Bool) → b ≡ true → (a || b) ≡ true
or_second true b e = refl
or_second false b e = e

field_again : (t : List ℕ) → Some1 is_field_byte t ⊎ QuotedField t → is_field_name t ≡ true
field_again t (inl h) = ap (λ (b : Bool). b || is_some (quoted_name t)) (word_of_again is_field_byte t h)
field_again t (inr q) = or_second (is_word_of is_field_byte t) (is_some (quoted_name t)) (quoted_again t q)

field_sound : (t : List ℕ) → is_field_name t ≡ true → Some1 is_field_byte t ⊎ QuotedField t
field_sound t e =
    either_true (is_word_of is_field_byte t) (is_some (quoted_name t)) (Some1 is_field_byte t ⊎ QuotedField t)
    (λ h. inl (word_of_sound is_field_byte t h)) (λ h. inr (quoted_sound t (quoted_name t) refl h)) e

one_name : List ℕ → Option (List ℕ)
one_name w = cond (is_field_name w) (Some w) None

name_again : (x t : List ℕ) → FieldName x t → one_name t ≡ Some x
unfolding one_name
name_again x t h = ap (λ (b : Bool). cond b (Some t) None) (field_again t h.1) ∙ ap (λ l. Some l) h.0

name_sound : (x t : List ℕ) → one_name t ≡ Some x → FieldName x t
unfolding one_name
name_sound x t e =
    let k = guard_some (is_field_name t) t x e in
    (k.1, field_sound t k.0)

-- a byte that stands neither in a name nor around one
Foreign : ℕ → Type 0
Foreign c = (is_field_byte c ≡ false) × (not (34 == c) ≡ true)

spelled_clean : (c : ℕ) → Foreign c → (t : List ℕ) → Some1 is_field_byte t ⊎ QuotedField t → Many (is_other c) t
unfolding Foreign
spelled_clean c e t (inl h) = many_map is_field_byte (is_other c) (λ b k. excludes is_field_byte c e.0 b k) t h.1
spelled_clean c e t (inr q) =
    let k = quoted_text t q in
    let inner : Many (is_other c) k.0 = many_map is_field_byte (is_other c) (λ b h. excludes is_field_byte c e.0 b h) k.0 k.2.1 in
    subst (Many (is_other c)) (sym k.1) (e.1, many_joined (is_other c) k.0 (34 ∷ []) inner (e.1, tt))

name_clean : (c : ℕ) → Foreign c → (x t : List ℕ) → FieldName x t → Many (is_other c) t
name_clean c e x t h = spelled_clean c e t h.1

all_names : (ws : List (List ℕ)) → list_all (λ w. is_some (one_name w)) ws ≡ true → (list_all is_field_name ws ≡ true) × (filter_map one_name ws ≡ ws)
unfolding one_name
all_names [] e = (refl, refl)
all_names (w ∷ ws) e =
    let b = both_true (is_some (one_name w)) (list_all (λ v. is_some (one_name v)) ws) e in
    let f : is_field_name w ≡ true = some_name (is_field_name w) b.0 in
    let r = all_names ws b.1 in
    (is_both (is_field_name w) (list_all is_field_name ws) f r.0, ap (λ (t : Bool). cons_option (cond t (Some w) None) (filter_map one_name ws)) f ∙ ap (λ l. w ∷ l) r.1)
  where
    some_name : (t : Bool) → is_some (cond t (Some w) None) ≡ true → t ≡ true
    some_name true k = refl
    some_name false k = absurd cc

names_all : (ws : List (List ℕ)) → list_all is_field_name ws ≡ true → list_all (λ w. is_some (one_name w)) ws ≡ true
unfolding one_name
names_all [] e = refl
names_all (w ∷ ws) e =
    let b = both_true (is_field_name w) (list_all is_field_name ws) e in
    ap (λ (t : Bool). is_some (cond t (Some w) None) && list_all (λ v. is_some (one_name v)) ws) b.0 ∙ names_all ws b.1

names_clean : (c : ℕ) → Foreign c → not (32 == c) ≡ true → (x : List ℕ) (xs : List (List ℕ)) (text : List ℕ) → Separated (Exactly (32 ∷ [])) FieldName (x ∷ xs) text → Many (is_other c) text
names_clean c e s x [] text q = subst (Many (is_other c)) (sym q.parts) (many_joined (is_other c) q.front q.back (name_clean c e x q.front q.first) (subst (Many (is_other c)) (sym q.second) tt))
names_clean c e s x (y ∷ ys) text q =
    subst (Many (is_other c)) (sym q.parts)
    (many_joined (is_other c) q.front q.back (name_clean c e x q.front q.first)
    (subst (Many (is_other c)) (sym q.second.parts)
    (many_joined (is_other c) q.second.front q.second.back (subst (Many (is_other c)) (sym q.second.first) (s, tt)) (names_clean c e s y ys q.second.back q.second.second))))

abbrev NamesAre : List (List ℕ) → List ℕ → Type 0
NamesAre names = Separated (Exactly (32 ∷ [])) FieldName names ⨾ Exactly (41 ∷ [])

fields_end : Bool → List ℕ × List ℕ → Option BodyPart
fields_end others cut =
    cond ((length cut.1 == 0) && list_all is_field_name (slice_split is_space cut.0)) (Some (parts.Fields others (slice_split is_space cut.0))) None

pub fields_again : (others : Bool) (names : List (List ℕ)) (rest : List ℕ) → NamesAre names rest → fields_of others rest ≡ Some (parts.Fields others names)
unfolding fields_end Foreign
fields_again others [] rest q = absurd q.first
fields_again others (n ∷ ns) rest q =
    let none : List ℕ = [] in
    let pair : List ℕ × List ℕ = (q.front, none) in
    let words : List (List ℕ) = slice_split is_space q.front in
    let whole : rest ≡ q.front ++ 41 ∷ [] = q.parts ∙ ap (λ l. q.front ++ l) q.second in
    let cut : cut_at 41 rest ≡ Some pair = ap (cut_at 41) whole ∙ cut_again 41 q.front none (names_clean 41 (refl, refl) refl n ns q.front q.first) in
    let r : AllRead one_name words (n ∷ ns) = parts_again 32 one_name FieldName name_again (λ x t h. name_clean 32 (refl, refl) x t h) n ns q.front q.first in
    let k = all_names words r.all in
    let same : words ≡ n ∷ ns = sym k.1 ∙ r.are in
    ap (λ o. o >>= fields_end others) cut
    ∙ ap (λ (t : Bool). cond t (Some (parts.Fields others words)) None) k.0
    ∙ ap (λ l. Some (parts.Fields others l)) same

pub fields_sound : (others : Bool) (rest : List ℕ) (part : BodyPart) → fields_of others rest ≡ Some part → (names : List (List ℕ)) × (part ≡ parts.Fields others names) × NamesAre names rest
unfolding fields_end
fields_sound others rest part e =
    let a = bind_some (cut_at 41 rest) (fields_end others) part e in
    let words : List (List ℕ) = slice_split is_space a.0.0 in
    let g = guard_some ((length a.0.1 == 0) && list_all is_field_name words) (parts.Fields others words) part a.2 in
    let b = both_true (length a.0.1 == 0) (list_all is_field_name words) g.0 in
    let all = names_all words b.1 in
    let f = parts_sound 32 one_name FieldName name_sound a.0.0 all in
    let same : f.first ∷ f.others ≡ words = sym f.are ∙ (all_names words all).1 in
    let c = cut_sound 41 rest a.0.0 a.0.1 a.1 in (
      words,
      sym g.1,
      record {
        front = a.0.0;
        back = 41 ∷ [];
        parts = c.whole ∙ ap (λ l. a.0.0 ++ 41 ∷ l) (empty a.0.1 b.0);
        first = subst (λ l. Separated (Exactly (32 ∷ [])) FieldName l a.0.0) same f.is;
        second = refl;
      },
    )

pub fields_clean : (names : List (List ℕ)) (rest : List ℕ) → NamesAre names rest → Many (is_other 93) rest
unfolding Foreign
fields_clean [] rest q = absurd q.first
fields_clean (n ∷ ns) rest q =
    subst (Many (is_other 93)) (sym q.parts)
    (many_joined (is_other 93) q.front q.back (names_clean 93 (refl, refl) refl n ns q.front q.first) (subst (Many (is_other 93)) (sym q.second) (refl, tt)))
