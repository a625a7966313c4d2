-- Lists of words in which brackets keep spaces together.
use Rattle.std.proofs.Common.{◌≡◌, ℕ, zero, suc, ◌<◌, Bool, true, false, cond, List, [], ◌∷◌, ◌++◌, length, take, drop, refl, ap, sym, subst, ◌∙◌, arith, length-append, length-drop, append_assoc}
use Rattle.std.specs.Prelude.{Option, Some, None, is_some, ◌==◌, ◌&&◌, not, filter}
use Rattle.std.specs.List.{list_all, onto_first, prefix_len}
use Rattle.std.proofs.lemmas.Bool.Decides.{Decides-eqb}
use Rattle.std.proofs.lemmas.List.{take-append-drop, take_at, drop_at}
use Rattle.envelope.proofs.Case.{decides_false}
use Rattle.envelope.proofs.Sound.{bind_some, byte_sound, guard_some, many_taken}
use Rattle.envelope.proofs.Tails.{stops_after}
use Rattle.envelope.proofs.Tokens.{Stops}
use Rattle.envelope.proofs.Words.{append_none, both_true, is_both, space_is}
use Rattle.envelope.specs.Bytes.{is_space, is_not_space}
use Rattle.envelope.specs.Grammar.{Many, Spaces, Gap}
use Rattle.envelope.specs.Reading.{◌>>=◌, after_spaces, has_bytes, past_byte}
use Rattle.imap_grammar.specs.Reading.{is_tight, items_in_parentheses}
use Rattle.imap_grammar.specs.Front.{is_blank}
use Rattle.imap_grammar.specs.Brackets.{in_bracket, outside_len, item_word_at, cut_outside, item_words}
use Rattle.imap_grammar.specs.Grammar.{Separated}
use Rattle.imap_grammar.proofs.Parens.{FoundParens, blank_again, blank_sound, last, last_cons}
use Rattle.imap_grammar.proofs.Separated.{AllRead, FoundWords, last_word, next_words, one_read}
use Rattle.imap_grammar.proofs.Tokens.{not_true, some_gap}

-- whether a bracket is open behind these bytes
abbrev pub open_behind : Bool → List ℕ → Bool
open_behind within [] = within
open_behind within (b ∷ bs) = open_behind (in_bracket within b) bs

-- no such byte stands outside of brackets
abbrev pub Outside : ℕ → Bool → List ℕ → Type 0
Outside c within [] = Unit {0}
Outside c within (b ∷ bs) = ((not within && (b == c)) ≡ false) × Outside c (in_bracket within b) bs

-- ---- words

-- a word of a list: each bracket that opens in it is closed in it
pub record ItemWord (w : List ℕ) : Type 0 where
  pub some : 0 < length w
  pub whole : Outside 32 false w
  pub closed : open_behind false w ≡ false

has_some : (w : List ℕ) → 0 < length w → has_bytes w ≡ true
has_some w h = ap not (decides_false (length w == 0) (Decides-eqb (length w) 0) (λ e. omega (arith, h, e)))

cut_then : (within : Bool) (w rest : List ℕ) → Outside 32 within w → open_behind within w ≡ false → cut_outside within (w ++ 32 ∷ rest) ≡ w ∷ cut_outside false rest
cut_then within [] rest h e = ap (λ (o : Bool). cond (not o && true) ([] ∷ cut_outside false rest) (onto_first 32 (cut_outside (in_bracket o 32) rest))) e
cut_then within (x ∷ xs) rest h e =
    ap (λ (t : Bool). cond t ([] ∷ cut_outside false (xs ++ 32 ∷ rest)) (onto_first x (cut_outside (in_bracket within x) (xs ++ 32 ∷ rest)))) h.0
    ∙ ap (onto_first x) (cut_then (in_bracket within x) xs rest h.1 e)

cut_alone : (within : Bool) (w : List ℕ) → Outside 32 within w → cut_outside within w ≡ w ∷ []
cut_alone within [] h = refl
cut_alone within (x ∷ xs) h =
    ap (λ (t : Bool). cond t ([] ∷ cut_outside false xs) (onto_first x (cut_outside (in_bracket within x) xs))) h.0 ∙ ap (onto_first x) (cut_alone (in_bracket within x) xs h.1)

pub items_gap : (gap rest : List ℕ) → Many is_space gap → item_words (gap ++ rest) ≡ item_words rest
items_gap [] rest h = refl
items_gap (s ∷ gap) rest h =
    ap (λ (t : Bool). filter has_bytes (cond t ([] ∷ cut_outside false (gap ++ rest)) (onto_first s (cut_outside (in_bracket false s) (gap ++ rest))))) h.0
    ∙ items_gap gap rest h.1

items_spaces : (sp : List ℕ) → Spaces sp → item_words sp ≡ []
items_spaces [] h = refl
items_spaces (s ∷ sp) h =
    ap (λ (t : Bool). filter has_bytes (cond t ([] ∷ cut_outside false sp) (onto_first s (cut_outside (in_bracket false s) sp)))) h.0
    ∙ items_spaces sp h.1

item_then : (w rest : List ℕ) → ItemWord w → item_words (w ++ 32 ∷ rest) ≡ w ∷ item_words rest
item_then w rest i =
    ap (filter has_bytes) (cut_then false w rest i.whole i.closed) ∙ ap (λ (t : Bool). cond t (w ∷ item_words rest) (item_words rest)) (has_some w i.some)

pub item_alone : (w : List ℕ) → 0 < length w → Outside 32 false w → item_words w ≡ w ∷ []
item_alone w some h = ap (filter has_bytes) (cut_alone false w h) ∙ ap (λ (t : Bool). cond t (w ∷ []) []) (has_some w some)

item_before : (w gap rest : List ℕ) → ItemWord w → Gap gap → item_words (w ++ (gap ++ rest)) ≡ w ∷ item_words rest
item_before w [] rest i g = absurd (let some = g.0 in omega (arith, some))
item_before w (s ∷ gap) rest i g =
    let is : s ≡ 32 = space_is s g.1.0 in
    ap (λ (y : ℕ). item_words (w ++ y ∷ (gap ++ rest))) is ∙ item_then w (gap ++ rest) i ∙ ap (λ (l : List (List ℕ)). w ∷ l) (items_gap gap rest g.1.1)

pub item_last : (w sp : List ℕ) → ItemWord w → Spaces sp → item_words (w ++ sp) ≡ w ∷ []
item_last w [] i s = ap item_words (append_none w) ∙ item_alone w i.some i.whole
item_last w (c ∷ sp) i s =
    let is : c ≡ 32 = space_is c s.0 in
    ap (λ (y : ℕ). item_words (w ++ y ∷ sp)) is ∙ item_then w sp i ∙ ap (λ (l : List (List ℕ)). w ∷ l) (items_spaces sp s.1)

-- ---- what stands before the first such byte outside of brackets

pub data Rest (c : ℕ) (within : Bool) (rest : List ℕ) : Type 0 where
  end : rest ≡ [] → Rest c within rest
  found : (more : List ℕ) → rest ≡ c ∷ more → within ≡ false → Rest c within rest

pub record Front (c : ℕ) (within : Bool) (bytes : List ℕ) (n : ℕ) : Type 0 where
  pub outside : Outside c within (take n bytes)
  pub rest : Rest c (open_behind within (take n bytes)) (drop n bytes)

pub front : (c : ℕ) (within : Bool) (bytes : List ℕ) → Front c within bytes (outside_len c within bytes)
front c within [] = record { outside = tt; rest = end refl }
front c within (x ∷ xs) = by (not within && (x == c)) refl (front c (in_bracket within x) xs)
  where
    by : (t : Bool) → (not within && (x == c)) ≡ t → Front c (in_bracket within x) xs (outside_len c (in_bracket within x) xs) → Front c within (x ∷ xs) (outside_len c within (x ∷ xs))
    by true e r =
        let b = both_true (not within) (x == c) e in
        let is : x ≡ c = (Decides-eqb x c).0 b.1 in
        subst (Front c within (x ∷ xs)) (sym (ap (λ (t : Bool). cond t 0 (suc (outside_len c (in_bracket within x) xs))) e))
        (record { outside = tt; rest = found xs (ap (λ (y : ℕ). y ∷ xs) is) (not_true within b.0) })
    by false e r =
        subst (Front c within (x ∷ xs)) (sym (ap (λ (t : Bool). cond t 0 (suc (outside_len c (in_bracket within x) xs))) e))
        (record { outside = (e, r.outside); rest = r.rest })

-- and of a text that has it behind closed brackets
pub front_again : (c : ℕ) (within : Bool) (w rest : List ℕ) → Outside c within w → open_behind within w ≡ false → outside_len c within (w ++ c ∷ rest) ≡ length w
front_again c within [] rest h e =
    let same : (c == c) ≡ true = (Decides-eqb c c).1 refl in
    ap (λ (o : Bool). cond (not o && (c == c)) 0 (suc (outside_len c (in_bracket o c) rest))) e ∙ ap (λ (t : Bool). cond t 0 (suc (outside_len c (in_bracket false c) rest))) same
front_again c within (x ∷ xs) rest h e =
    ap (λ (t : Bool). cond t 0 (suc (outside_len c (in_bracket within x) (xs ++ c ∷ rest)))) h.0 ∙ ap suc (front_again c (in_bracket within x) xs rest h.1 e)

-- ---- lists

pub item_list_again : {A : Type 0} (f : List ℕ → Option A) (P : A → List ℕ → Type 0) → ((x : A) (t : List ℕ) → P x t → f t ≡ Some x)
    → ((x : A) (t : List ℕ) → P x t → ItemWord t) → (x : A) (xs : List A) (text sp : List ℕ)
    → Separated Gap P (x ∷ xs) text → Spaces sp → AllRead f (item_words (text ++ sp)) (x ∷ xs)
item_list_again f P again word x [] text sp q s =
    let whole : text ≡ q.front = q.parts ∙ ap (λ (l : List ℕ). q.front ++ l) q.second ∙ append_none q.front in
    let split : item_words (text ++ sp) ≡ q.front ∷ [] = ap (λ (l : List ℕ). item_words (l ++ sp)) whole ∙ item_last q.front sp (word x q.front q.first) s in
    subst (λ (ps : List (List ℕ)). AllRead f ps (x ∷ [])) (sym split) (one_read f q.front x [] [] (again x q.front q.first) (record { all = refl; are = refl }))
item_list_again f P again word x (y ∷ ys) text sp q s =
    let gap = q.second.front in
    let rest = q.second.back in
    let whole : text ++ sp ≡ q.front ++ (gap ++ (rest ++ sp)) = regroup text q.front q.back gap rest sp q.parts q.second.parts in
    let split : item_words (text ++ sp) ≡ q.front ∷ item_words (rest ++ sp) = ap item_words whole ∙ item_before q.front gap (rest ++ sp) (word x q.front q.first) q.second.first in
    subst (λ (ps : List (List ℕ)). AllRead f ps (x ∷ y ∷ ys)) (sym split)
    (one_read f q.front x (item_words (rest ++ sp)) (y ∷ ys) (again x q.front q.first) (item_list_again f P again word y ys rest sp q.second.second s))
  where
    regroup : (text front back gap rest sp : List ℕ) → text ≡ front ++ back → back ≡ gap ++ rest → text ++ sp ≡ front ++ (gap ++ (rest ++ sp))
    regroup text front back gap rest sp e g = rw (e, g) (simp append_assoc)

after_item : {A : Type 0} (f : List ℕ → Option A) (P : A → List ℕ → Type 0) → ((x : A) (t : List ℕ) → f t ≡ Some x → P x t)
    → (bytes w gap y : List ℕ) → bytes ≡ w ++ (gap ++ y) → ItemWord w → Gap gap → Stops is_space y → list_all (λ p. is_some (f p)) (item_words bytes) ≡ true
    → (0 < length y → list_all (λ p. is_some (f p)) (item_words y) ≡ true → FoundWords item_words f P y) → FoundWords item_words f P bytes
after_item f P sound bytes w gap [] e i g s h again =
    let whole : bytes ≡ w ++ gap = e ∙ ap (λ (l : List ℕ). w ++ l) (append_none gap) in
    let split : item_words bytes ≡ w ∷ [] = ap item_words whole ∙ item_last w gap i g.1 in
    let b = both_true (is_some (f w)) true (ap (list_all (λ p. is_some (f p))) (sym split) ∙ h) in
    last_word item_words f P sound bytes w gap whole g.1 split b.0
after_item f P sound bytes w gap (c ∷ cs) e i g s h again =
    let y = c ∷ cs in
    let split : item_words bytes ≡ w ∷ item_words y = ap item_words e ∙ item_before w gap y i g in
    let b = both_true (is_some (f w)) (list_all (λ p. is_some (f p)) (item_words y)) (ap (list_all (λ p. is_some (f p))) (sym split) ∙ h) in
    next_words item_words f P sound bytes w gap y e g split b.0 (again (omega arith) b.1)

-- the first word of bytes that begin with no space
first_some : (bytes : List ℕ) → 0 < length bytes → Stops is_space bytes → 0 < length (item_word_at bytes).0
first_some [] h s = absurd (omega (arith, h))
first_some (x ∷ xs) h s =
    let one : outside_len 32 false (x ∷ xs) ≡ suc (outside_len 32 (in_bracket false x) xs) = ap (λ (t : Bool). cond t 0 (suc (outside_len 32 (in_bracket false x) xs))) s in
    subst (λ (n : ℕ). 0 < length (take n (x ∷ xs))) (sym one) (omega arith)

-- what is known of the words behind the first
abbrev Known : {A : Type 0} → (List ℕ → Option A) → (A → List ℕ → Type 0) → ℕ → Type 0
Known f P n = (y : List ℕ) → length y < n → Stops is_space y → 0 < length y → list_all (λ p. is_some (f p)) (item_words y) ≡ true → FoundWords item_words f P y

first_item : {A : Type 0} (f : List ℕ → Option A) (P : A → List ℕ → Type 0) → ((x : A) (t : List ℕ) → f t ≡ Some x → P x t)
    → (bytes w rest : List ℕ) → bytes ≡ w ++ rest → 0 < length w → Outside 32 false w → Rest 32 (open_behind false w) rest → list_all (λ p. is_some (f p)) (item_words bytes) ≡ true
    → Known f P (length bytes) → FoundWords item_words f P bytes
first_item f P sound bytes w rest e long whole (end none) h again =
    let alone : bytes ≡ w = e ∙ ap (λ (l : List ℕ). w ++ l) none ∙ append_none w in
    let split : item_words bytes ≡ w ∷ [] = ap item_words alone ∙ item_alone w long whole in
    let b = both_true (is_some (f w)) true (ap (list_all (λ p. is_some (f p))) (sym split) ∙ h) in
    last_word item_words f P sound bytes w [] (alone ∙ sym (append_none w)) tt split b.0
first_item f P sound bytes w rest e long whole (found more is closed) h again =
    let g = some_gap 32 more refl in
    let y = after_spaces (32 ∷ more) in
    let parts : bytes ≡ w ++ (g.gap ++ y) = e ∙ ap (λ (l : List ℕ). w ++ l) (is ∙ g.parts) in
    let size : length y < length bytes = omega (arith, ap length parts, length-append w (g.gap ++ y), length-append g.gap y, long) in
    after_item f P sound bytes w g.gap y parts (record { some = long; whole = whole; closed = closed }) g.is g.stops h
    (λ more all. again y size g.stops more all)

items_within : {A : Type 0} (f : List ℕ → Option A) (P : A → List ℕ → Type 0) → ((x : A) (t : List ℕ) → f t ≡ Some x → P x t) → (n : ℕ) → Known f P n
items_within f P sound zero bytes lt s some h = absurd (omega (arith, lt))
items_within f P sound (suc n) bytes lt s some h =
    let k = front 32 false bytes in
    first_item f P sound bytes (item_word_at bytes).0 (item_word_at bytes).1 (sym (take-append-drop (outside_len 32 false bytes) bytes)) (first_some bytes some s) k.outside k.rest h
    (λ y size t more all. items_within f P sound n y (omega (arith, lt, size)) t more all)

pub item_list_sound : {A : Type 0} (f : List ℕ → Option A) (P : A → List ℕ → Type 0) → ((x : A) (t : List ℕ) → f t ≡ Some x → P x t)
    → (bytes : List ℕ) → Stops is_space bytes → 0 < length bytes → list_all (λ p. is_some (f p)) (item_words bytes) ≡ true → FoundWords item_words f P bytes
item_list_sound f P sound bytes s some h = items_within f P sound (suc (length bytes)) bytes (omega arith) s some h

-- ---- one word after the other

-- past the spaces stand the same words
items_after : (text : List ℕ) → item_words text ≡ item_words (after_spaces text)
items_after text =
    ap item_words (sym (take-append-drop (prefix_len is_space text) text))
    ∙ items_gap (take (prefix_len is_space text) text) (after_spaces text) (many_taken is_space text)

pub no_item : (text : List ℕ) → length (after_spaces text) ≡ 0 → item_words text ≡ []
no_item text h = items_after text ∙ ap item_words (none (after_spaces text) h)
  where
    none : (xs : List ℕ) → length xs ≡ 0 → xs ≡ []
    none [] e = refl
    none (x ∷ xs) e = absurd (omega (arith, e))

first_of_items : (bytes w rest : List ℕ) → bytes ≡ w ++ rest → 0 < length w → Outside 32 false w → Rest 32 (open_behind false w) rest → item_words bytes ≡ w ∷ item_words rest
first_of_items bytes w rest e long whole (end none) =
    ap item_words (e ∙ ap (λ (l : List ℕ). w ++ l) none ∙ append_none w) ∙ item_alone w long whole ∙ ap (λ (l : List ℕ). w ∷ item_words l) (sym none)
first_of_items bytes w rest e long whole (found more is closed) =
    ap item_words (e ∙ ap (λ (l : List ℕ). w ++ l) is) ∙ item_then w more (record { some = long; whole = whole; closed = closed }) ∙ ap (λ (l : List ℕ). w ∷ item_words l) (sym is)

pub one_item : (text : List ℕ) → 0 < length (after_spaces text) → item_words text ≡ (item_word_at (after_spaces text)).0 ∷ item_words (item_word_at (after_spaces text)).1
one_item text n =
    let start = after_spaces text in
    let k = front 32 false start in
    items_after text
    ∙ first_of_items start (item_word_at start).0 (item_word_at start).1 (sym (take-append-drop (outside_len 32 false start) start)) (first_some start n (stops_after is_space text)) k.outside k.rest

pub item_rest_shorter : (text : List ℕ) → 0 < length (after_spaces text) → length (item_word_at (after_spaces text)).1 < length text
item_rest_shorter text n =
    let start = after_spaces text in
    let some = first_some start n (stops_after is_space text) in
    let whole = ap length (take-append-drop (outside_len 32 false start) start) in
    omega (arith, some, whole, length-append (item_word_at start).0 (item_word_at start).1, length-drop (prefix_len is_space text) text)

-- a text without such a byte
pub front_all : (c : ℕ) (within : Bool) (w : List ℕ) → Outside c within w → outside_len c within w ≡ length w
front_all c within [] h = refl
front_all c within (x ∷ xs) h = ap (λ (t : Bool). cond t 0 (suc (outside_len c (in_bracket within x) xs))) h.0 ∙ ap suc (front_all c (in_bracket within x) xs h.1)

abbrev pub pair : List ℕ → List ℕ → List ℕ × List ℕ
pair a b = (a, b)

cut_back : (n : ℕ) (w rest : List ℕ) → n ≡ length w → pair (take n (w ++ rest)) (drop n (w ++ rest)) ≡ pair w rest
cut_back n w rest e =
    ap (λ (m : ℕ). pair (take m (w ++ rest)) (drop m (w ++ rest))) e
    ∙ ap (λ (l : List ℕ). pair l (drop (length w) (w ++ rest))) (take_at w rest (length w) refl)
    ∙ ap (λ (l : List ℕ). pair w l) (drop_at w rest (length w) refl)

-- a word and the spaces behind it
pub item_word_back : (w sp : List ℕ) → ItemWord w → Spaces sp → item_word_at (w ++ sp) ≡ pair w sp
item_word_back w [] i s = cut_back (outside_len 32 false (w ++ [])) w [] (ap (outside_len 32 false) (append_none w) ∙ front_all 32 false w i.whole)
item_word_back w (c ∷ sp) i s =
    let is : c ≡ 32 = space_is c s.0 in
    cut_back (outside_len 32 false (w ++ c ∷ sp)) w (c ∷ sp) (ap (λ (y : ℕ). outside_len 32 false (w ++ y ∷ sp)) is ∙ front_again 32 false w sp i.whole i.closed)

-- its last byte is no space
pub last_whole : (within : Bool) (w : List ℕ) → 0 < length w → Outside 32 within w → open_behind within w ≡ false → is_not_space (last w) ≡ true
last_whole within [] h o e = absurd (omega (arith, h))
last_whole within (x ∷ []) h o e = by within (x == 32) refl o.0 e
  where
    by : (t u : Bool) → (x == 32) ≡ u → (not t && u) ≡ false → in_bracket t x ≡ false → not u ≡ true
    by t false f g k = refl
    by false true f g k = absurd cc
    by true true f g k =
        let is : x ≡ 32 = (Decides-eqb x 32).0 f in
        let still : in_bracket true x ≡ true = ap (in_bracket true) is in
        absurd cc
last_whole within (x ∷ y ∷ w) h o e = ap is_not_space (last_cons x (y ∷ w) (omega arith)) ∙ last_whole (in_bracket within x) (y ∷ w) (omega arith) o.1 e

first_whole : (w rest : List ℕ) → 0 < length w → Outside 32 false w → Stops is_space (w ++ rest)
first_whole [] rest h o = absurd (omega (arith, h))
first_whole (x ∷ xs) rest h o = o.0

pub item_starts : (w rest : List ℕ) → ItemWord w → Stops is_space (w ++ rest)
item_starts w rest i = first_whole w rest i.some i.whole

pub item_ends : (w : List ℕ) → ItemWord w → (0 < length w) × (is_not_space (last w) ≡ true)
item_ends w i = (i.some, last_whole false w i.some i.whole i.closed)

-- ---- parentheses

inside : List ℕ → List ℕ → Option (List ℕ)
inside inner rest = cond (is_blank rest && is_tight inner) (Some inner) None

pub items_paren_again : (inner sp : List ℕ) → Outside 41 false inner → open_behind false inner ≡ false → is_tight inner ≡ true → Spaces sp
    → items_in_parentheses ((40 ∷ (inner ++ 41 ∷ [])) ++ sp) ≡ Some inner
unfolding inside
items_paren_again inner sp o closed t s =
    let start : List ℕ = inner ++ 41 ∷ sp in
    let n : ℕ = outside_len 41 false start in
    let at : n ≡ length inner = front_again 41 false inner sp o closed in
    let taken : take n start ≡ inner = ap (λ (m : ℕ). take m start) at ∙ take_at inner (41 ∷ sp) (length inner) refl in
    let dropped : drop n start ≡ 41 ∷ sp = ap (λ (m : ℕ). drop m start) at ∙ drop_at inner (41 ∷ sp) (length inner) refl in
    ap (λ l. items_in_parentheses (40 ∷ l)) (append_assoc inner (41 ∷ []) sp)
    ∙ ap (λ l. past_byte 41 l >>= inside (take n start)) dropped
    ∙ ap (λ l. inside l sp) taken
    ∙ ap (λ (u : Bool). cond u (Some inner) None) (is_both (is_blank sp) (is_tight inner) (blank_again sp s) t)

pub items_paren_sound : (bytes inner : List ℕ) → items_in_parentheses bytes ≡ Some inner → FoundParens bytes inner
unfolding inside
items_paren_sound bytes inner e =
    let a = bind_some (past_byte 40 bytes) (λ start. past_byte 41 (drop (outside_len 41 false start) start) >>= inside (take (outside_len 41 false start) start)) inner e in
    let start = a.0 in
    let n = outside_len 41 false start in
    let b = bind_some (past_byte 41 (drop n start)) (inside (take n start)) inner a.2 in
    let k = guard_some (is_blank b.0 && is_tight (take n start)) (take n start) inner b.2 in
    let t = both_true (is_blank b.0) (is_tight (take n start)) k.0 in
    let whole : start ≡ take n start ++ 41 ∷ b.0 = sym (take-append-drop n start) ∙ ap (λ l. take n start ++ l) (byte_sound 41 (drop n start) b.0 b.1) in
    subst (FoundParens bytes) k.1 (record {
      spaces = b.0;
      parts = byte_sound 40 bytes start a.1 ∙ ap (λ l. 40 ∷ l) (whole ∙ sym (append_assoc (take n start) (41 ∷ []) b.0));
      blank = blank_sound b.0 t.0;
      tight = t.1;
    })
