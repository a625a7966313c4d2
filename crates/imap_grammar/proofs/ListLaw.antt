-- Lists of items and of flags, in parentheses and without: what is spelled is read, and what is read is spelled.
use Rattle.std.proofs.Common.{◌≡◌, ℕ, ◌<◌, Bool, true, false, cond, List, [], ◌∷◌, ◌++◌, length, drop, refl, ap, sym, subst, ◌∙◌, arith, append_assoc, inl, inr}
use Rattle.std.specs.Prelude.{Option, Some, None, codes, is_some, ◌==◌, ◌&&◌, ◌||◌, not}
use Rattle.std.specs.List.{list_all, filter_map, cons_option}
use Rattle.std.specs.Str.{str_eq_ignore_ascii_case as is_same}
use Rattle.std.proofs.lemmas.Bool.Decides.{Decides-eqb}
use Rattle.change_ring.specs.declared.change.Flags.{Flags}
use Rattle.envelope.proofs.Case.{decides_false}
use Rattle.envelope.proofs.Sound.{bind_some, guard_some, either, byte_sound}
use Rattle.envelope.proofs.Tokens.{Stops}
use Rattle.envelope.proofs.Words.{both_true, append_none, is_both}
use Rattle.envelope.specs.Bytes.{is_space, is_not_space}
use Rattle.envelope.specs.Grammar.{Many, Some1, Spaces, Gap, Joined}
use Rattle.envelope.specs.Reading.{◌>>=◌, first_is, words, past_byte}
use Rattle.imap_grammar.specs.Bytes.{is_atom}
use Rattle.imap_grammar.specs.Brackets.{item_word_at, item_words, outside_len}
use Rattle.imap_grammar.specs.Items.{fast_items, fetch_item_of, fetch_items_of, is_flag_after, is_flag, flags_among}
use Rattle.imap_grammar.specs.Grammar.{Others, Separated, Parenthesized, ItemIs, ItemsAre, Flag, FlagWord, FlagWords, FlagsAre}
use Rattle.imap_grammar.specs.Reading.{is_tight, in_parentheses, items_in_parentheses, are_items, fetch_items_in, fetch_word_in, fetch_items_at, flags_in, flags_at}
use Rattle.imap_grammar.specs.Front.{is_blank}
use Rattle.imap_grammar.specs.declared.items.FetchItem.{FetchItem}
use Rattle.imap_grammar.proofs.Cuts.{is_other}
use Rattle.imap_grammar.proofs.Tokens.{excludes, many_map, many_joined, not_true}
use Rattle.imap_grammar.proofs.Separated.{AllRead, FoundWords, words_again, words_sound, said}
use Rattle.imap_grammar.proofs.Parens.{edges_tight, separated_tight, separated_starts, tight_stops, tight_end, blank_again, blank_sound, paren_again, paren_sound}
use Rattle.imap_grammar.proofs.Keywords.{same_sound}
use Rattle.imap_grammar.proofs.Fields.{word_of_again, word_of_sound}
use Rattle.std.proofs.lemmas.List.{take-append-drop}
use Rattle.imap_grammar.proofs.ItemWords.{ItemWord, Outside, open_behind, front, item_alone, item_ends, item_list_again, item_list_sound, item_starts, item_word_back, items_paren_again, items_paren_sound}
use Rattle.imap_grammar.proofs.Outside.{both_behind, both_outside, outside_plain}
use Rattle.imap_grammar.proofs.ItemLaw.{NoParenthesis, item_again, item_sound, item_word, item_unclosed, item_front, item_not_fast, is_fast, fast_word, fast_front}

-- ---- bytes of lists

others_many : {A : Type 0} (p : ℕ → Bool) (P : A → List ℕ → Type 0) → ((b : ℕ) → is_space b ≡ true → p b ≡ true) → ((x : A) (t : List ℕ) → P x t → Many p t)
    → (xs : List A) (text : List ℕ) → Others Gap P xs text → Many p text
others_many p P sp each [] text e = subst (Many p) (sym e) tt
others_many p P sp each (x ∷ xs) text q =
    subst (Many p) (sym q.parts)
    (many_joined p q.front q.back (many_map is_space p sp q.front q.first.1)
    (subst (Many p) (sym q.second.parts)
    (many_joined p q.second.front q.second.back (each x q.second.front q.second.first) (others_many p P sp each xs q.second.back q.second.second))))

pub separated_many : {A : Type 0} (p : ℕ → Bool) (P : A → List ℕ → Type 0) → ((b : ℕ) → is_space b ≡ true → p b ≡ true) → ((x : A) (t : List ℕ) → P x t → Many p t)
    → (x : A) (xs : List A) (text : List ℕ) → Separated Gap P (x ∷ xs) text → Many p text
separated_many p P sp each x xs text q = subst (Many p) (sym q.parts) (many_joined p q.front q.back (each x q.front q.first) (others_many p P sp each xs q.back q.second))

pub space_open : (b : ℕ) → is_space b ≡ true → is_other 41 b ≡ true
space_open b e = excludes is_space 41 refl b e

-- ---- lists in parentheses

abbrev pub list_in : {A : Type 0} → (List ℕ → Option A) → List ℕ → Option (List A)
list_in f text = cond (are_items f (words text)) (Some (filter_map f (words text))) None

pub some_parts : {A : Type 0} (f : List ℕ → Option A) (ws : List (List ℕ)) (x : A) (xs : List A) → filter_map f ws ≡ x ∷ xs → not (length ws == 0) ≡ true
some_parts f [] x xs e = absurd cc
some_parts f (w ∷ ws) x xs e = ap not (decides_false (length (w ∷ ws) == 0) (Decides-eqb (length (w ∷ ws)) 0) (λ k. omega (arith, k)))

read_list : {A : Type 0} (f : List ℕ → Option A) (text : List ℕ) (x : A) (xs : List A) → AllRead f (words text) (x ∷ xs) → list_in f text ≡ Some (x ∷ xs)
read_list f text x xs k =
    let some = some_parts f (words text) x xs k.are in
    ap (λ (t : Bool). cond t (Some (filter_map f (words text))) None) (is_both (list_all (λ w. is_some (f w)) (words text)) (not (length (words text) == 0)) k.all some)
    ∙ ap (λ l. Some l) k.are

-- what stands between parentheses, and what its words say
pub record ListRead {A : Type 0} (f : List ℕ → Option A) (bytes : List ℕ) (xs : List A) : Type 0 where
  pub inner : List ℕ
  pub found : in_parentheses bytes ≡ Some inner
  pub read : list_in f inner ≡ Some xs

pub paren_text : (P : List ℕ → Type 0) (text : List ℕ) → Parenthesized P text → (inner : List ℕ) × (text ≡ 40 ∷ (inner ++ 41 ∷ [])) × P inner
paren_text P text q = (
  q.second.front,
  q.parts ∙ ap (λ l. l ++ q.back) q.first ∙ ap (λ l. 40 ∷ l) (q.second.parts ∙ ap (λ l. q.second.front ++ l) q.second.second),
  q.second.first,
)

pub text_paren : (P : List ℕ → Type 0) (inner : List ℕ) → P inner → Parenthesized P (40 ∷ (inner ++ 41 ∷ []))
text_paren P inner h = record {
  front = 40 ∷ [];
  back = inner ++ 41 ∷ [];
  parts = refl;
  first = refl;
  second = record { front = inner; back = 41 ∷ []; parts = refl; first = h; second = refl };
}

pub listed_again : {A : Type 0} (f : List ℕ → Option A) (P : A → List ℕ → Type 0) → ((x : A) (t : List ℕ) → P x t → f t ≡ Some x)
    → ((x : A) (t : List ℕ) → P x t → Some1 is_not_space t) → ((x : A) (t : List ℕ) → P x t → Many (is_other 41) t) → (xs : List A) (text sp : List ℕ)
    → Parenthesized (Separated Gap P xs) text → Spaces sp → ListRead f (text ++ sp) xs
listed_again f P again bare unclosed [] text sp q s = absurd (paren_text (λ _. ⊥) text q).2
listed_again f P again bare unclosed (x ∷ xs) text sp q s =
    let k = paren_text (Separated Gap P (x ∷ xs)) text q in
    let r = words_again f P again bare x xs k.0 [] k.2 tt in
    let all : AllRead f (words k.0) (x ∷ xs) = subst (λ l. AllRead f (words l) (x ∷ xs)) (append_none k.0) r in
    record {
      inner = k.0;
      found = ap (λ l. in_parentheses (l ++ sp)) k.1 ∙ paren_again k.0 sp (separated_many (is_other 41) P space_open unclosed x xs k.0 k.2) (separated_tight P bare x xs k.0 k.2) s;
      read = read_list f k.0 x xs all;
    }

pub none_empty : (text : List ℕ) → not (length (words text) == 0) ≡ true → 0 < length text
none_empty [] e = absurd cc
none_empty (x ∷ xs) e = omega arith

inner_sound : {A : Type 0} (f : List ℕ → Option A) (P : A → List ℕ → Type 0) → ((x : A) (t : List ℕ) → f t ≡ Some x → P x t) → (inner : List ℕ) (xs : List A)
    → is_tight inner ≡ true → list_in f inner ≡ Some xs → Separated Gap P xs inner
inner_sound f P sound inner xs t e =
    let k = guard_some (are_items f (words inner)) (filter_map f (words inner)) xs e in
    let b = both_true (list_all (λ w. is_some (f w)) (words inner)) (not (length (words inner) == 0)) k.0 in
    let w = words_sound f P sound inner (tight_stops inner t) (none_empty inner b.1) b.0 in
    let same : inner ≡ w.text = tight_end inner w.text w.spaces w.parts w.blank t in
    subst (λ l. Separated Gap P l inner) (sym w.found.are ∙ k.1) (subst (Separated Gap P (w.found.first ∷ w.found.others)) (sym same) w.found.is)

pub listed_sound : {A : Type 0} (f : List ℕ → Option A) (P : A → List ℕ → Type 0) → ((x : A) (t : List ℕ) → f t ≡ Some x → P x t) → (bytes inner : List ℕ) (xs : List A)
    → in_parentheses bytes ≡ Some inner → list_in f inner ≡ Some xs → Joined (Parenthesized (Separated Gap P xs)) Spaces bytes
listed_sound f P sound bytes inner xs e g =
    let p = paren_sound bytes inner e in
    record { front = 40 ∷ (inner ++ 41 ∷ []); back = p.spaces; parts = p.parts; first = text_paren (Separated Gap P xs) inner (inner_sound f P sound inner xs p.tight g); second = p.blank }

-- ---- items of FETCH

pub first_other : (c : ℕ) (text rest : List ℕ) → 0 < length text → Many (is_other c) text → first_is c (text ++ rest) ≡ false
first_other c [] rest h m = absurd (omega (arith, h))
first_other c (x ∷ xs) rest h m = not_true (x == c) m.0

no_parenthesis : (text rest : List ℕ) → NoParenthesis text → first_is 40 (text ++ rest) ≡ false
no_parenthesis text rest n =
    ap (λ l. first_is 40 (l ++ rest)) n.whole ∙ ap (first_is 40) (append_assoc n.front n.back rest) ∙ first_other 40 n.front (n.back ++ rest) n.some n.clean

-- items that all words are
read_items : (text : List ℕ) (x : FetchItem) (xs : List FetchItem) → AllRead fetch_item_of (item_words text) (x ∷ xs) → fetch_items_in text ≡ Some (x ∷ xs)
read_items text x xs k =
    let some = some_parts fetch_item_of (item_words text) x xs k.are in
    ap (λ (t : Bool). cond t (Some (filter_map fetch_item_of (item_words text))) None) (is_both (list_all (λ w. is_some (fetch_item_of w)) (item_words text)) (not (length (item_words text) == 0)) k.all some)
    ∙ ap (λ l. Some l) k.are

abbrev items_bare : List ℕ → Option (List FetchItem)
items_bare bytes = cond (is_blank (item_word_at bytes).1) (fetch_word_in (item_word_at bytes).0) None

-- a word alone, and what it says
alone_again : (items : List FetchItem) (text sp : List ℕ) → ItemWord text → NoParenthesis text → Spaces sp → fetch_word_in text ≡ Some items
    → fetch_items_at (text ++ sp) ≡ Some items
alone_again items text sp w n s e =
    ap (λ (t : Bool). cond t (items_in_parentheses (text ++ sp) >>= fetch_items_in) (items_bare (text ++ sp))) (no_parenthesis text sp n)
    ∙ ap (λ (c : List ℕ × List ℕ). cond (is_blank c.1) (fetch_word_in c.0) None) (item_word_back text sp w s)
    ∙ ap (λ (t : Bool). cond t (fetch_word_in text) None) (blank_again sp s)
    ∙ e

-- what stands outside of brackets in a list of items
record Unclosed (text : List ℕ) : Type 0 where
  outside : Outside 41 false text
  closed : open_behind false text ≡ false

item_is_unclosed : (x : FetchItem) (t : List ℕ) → ItemIs x t → Unclosed t
item_is_unclosed x t h = record { outside = item_unclosed x t h; closed = (item_word x t h).closed }

gap_unclosed : (gap : List ℕ) → Gap gap → Unclosed gap
gap_unclosed gap g =
    let k = outside_plain 41 gap (many_map is_space (is_other 41) (λ b e. excludes is_space 41 refl b e) gap g.1) (many_map is_space (is_other 91) (λ b e. excludes is_space 91 refl b e) gap g.1) in
    record { outside = k.0; closed = k.1 }

both_unclosed : (a b text : List ℕ) → text ≡ a ++ b → Unclosed a → Unclosed b → Unclosed text
both_unclosed a b text e h k =
    subst Unclosed (sym e) (record { outside = both_outside 41 false a b false h.outside h.closed k.outside; closed = both_behind false a b false h.closed ∙ k.closed })

items_unclosed : (x : FetchItem) (xs : List FetchItem) (text : List ℕ) → Separated Gap ItemIs (x ∷ xs) text → Unclosed text
items_unclosed x [] text q = both_unclosed q.front q.back text q.parts (item_is_unclosed x q.front q.first) (subst Unclosed (sym q.second) (record { outside = tt; closed = refl }))
items_unclosed x (y ∷ ys) text q =
    both_unclosed q.front q.back text q.parts (item_is_unclosed x q.front q.first)
    (both_unclosed q.second.front q.second.back q.back q.second.parts (gap_unclosed q.second.front q.second.first) (items_unclosed y ys q.second.back q.second.second))

items_tight : (x : FetchItem) (xs : List FetchItem) (text : List ℕ) → Separated Gap ItemIs (x ∷ xs) text → is_tight text ≡ true
items_tight x xs text q = edges_tight ItemIs (λ y t rest h. item_starts t rest (item_word y t h)) (λ y t h. item_ends t (item_word y t h)) x xs text q

parens_again : (items : List FetchItem) (text sp : List ℕ) → Parenthesized (Separated Gap ItemIs items) text → Spaces sp → fetch_items_at (text ++ sp) ≡ Some items
parens_again [] text sp q s = absurd (paren_text (λ _. ⊥) text q).2
parens_again (x ∷ xs) text sp q s =
    let k = paren_text (Separated Gap ItemIs (x ∷ xs)) text q in
    let u = items_unclosed x xs k.0 k.2 in
    let found : items_in_parentheses (text ++ sp) ≡ Some k.0 =
    ap (λ l. items_in_parentheses (l ++ sp)) k.1 ∙ items_paren_again k.0 sp u.outside u.closed (items_tight x xs k.0 k.2) s in
    let r = item_list_again fetch_item_of ItemIs item_again item_word x xs k.0 [] k.2 tt in
    let all : AllRead fetch_item_of (item_words k.0) (x ∷ xs) = subst (λ l. AllRead fetch_item_of (item_words l) (x ∷ xs)) (append_none k.0) r in
    let opened : first_is 40 (text ++ sp) ≡ true = ap (λ l. first_is 40 (l ++ sp)) k.1 in
    ap (λ (t : Bool). cond t (items_in_parentheses (text ++ sp) >>= fetch_items_in) (items_bare (text ++ sp))) opened
    ∙ ap (λ o. o >>= fetch_items_in) found
    ∙ read_items k.0 x xs all

pub items_again : (items : List FetchItem) (text sp : List ℕ) → ItemsAre items text → Spaces sp → fetch_items_at (text ++ sp) ≡ Some items
items_again items text sp (inl h) s =
    let w = item_word h.0 text h.2 in
    let all : AllRead fetch_item_of (item_words text) (h.0 ∷ []) = subst (λ l. AllRead fetch_item_of l (h.0 ∷ [])) (sym (item_alone text w.some w.whole))
    (record { all = ap (λ o. is_some o && true) (item_again h.0 text h.2); are = ap (λ o. cons_option o []) (item_again h.0 text h.2) }) in
    alone_again items text sp w (item_front h.0 text h.2) s
    (ap (λ (t : Bool). cond t (Some fast_items) (fetch_items_in text)) (item_not_fast h.0 text h.2)
    ∙ read_items text h.0 [] all
    ∙ ap (λ l. Some l) (sym h.1))
items_again items text sp (inr (inl h)) s =
    alone_again items text sp (fast_word text h.1) (fast_front text h.1) s
    (ap (λ (t : Bool). cond t (Some fast_items) (fetch_items_in text)) (is_fast text h.1) ∙ ap (λ l. Some l) (sym h.0))
items_again items text sp (inr (inr q)) s = parens_again items text sp q s

no_items : (text : List ℕ) → not (length (item_words text) == 0) ≡ true → 0 < length text
no_items [] e = absurd cc
no_items (x ∷ xs) e = omega arith

-- what is known of words that are items
items_found : (text : List ℕ) (items : List FetchItem) → Stops is_space text → fetch_items_in text ≡ Some items
    → (w : FoundWords item_words fetch_item_of ItemIs text) × (w.found.first ∷ w.found.others ≡ items)
items_found text items s e =
    let k = guard_some (are_items fetch_item_of (item_words text)) (fetch_items_of text) items e in
    let b = both_true (list_all (λ w. is_some (fetch_item_of w)) (item_words text)) (not (length (item_words text) == 0)) k.0 in
    let w = item_list_sound fetch_item_of ItemIs item_sound text s (no_items text b.1) b.0 in
    (w, sym w.found.are ∙ k.1)

parens_sound : (bytes inner : List ℕ) (items : List FetchItem) → items_in_parentheses bytes ≡ Some inner → fetch_items_in inner ≡ Some items → Joined (ItemsAre items) Spaces bytes
parens_sound bytes inner items e h =
    let p = items_paren_sound bytes inner e in
    let k = items_found inner items (tight_stops inner p.tight) h in
    let w = k.0 in
    let same : inner ≡ w.text = tight_end inner w.text w.spaces w.parts w.blank p.tight in
    let list : Separated Gap ItemIs items inner = subst (λ l. Separated Gap ItemIs l inner) k.1 (subst (Separated Gap ItemIs (w.found.first ∷ w.found.others)) (sym same) w.found.is) in
    record { front = 40 ∷ (inner ++ 41 ∷ []); back = p.spaces; parts = p.parts; first = inr (inr (text_paren (Separated Gap ItemIs items) inner list)); second = p.blank }

one_sound : (w rest bytes : List ℕ) (items : List FetchItem) → bytes ≡ w ++ rest → Outside 32 false w → is_blank rest ≡ true → fetch_items_in w ≡ Some items → Joined (ItemsAre items) Spaces bytes
one_sound w rest bytes items e o b h =
    let k = guard_some (are_items fetch_item_of (item_words w)) (fetch_items_of w) items h in
    let t = both_true (list_all (λ v. is_some (fetch_item_of v)) (item_words w)) (not (length (item_words w) == 0)) k.0 in
    let one : item_words w ≡ w ∷ [] = item_alone w (no_items w t.1) o in
    let all : (is_some (fetch_item_of w) && true) ≡ true = ap (list_all (λ v. is_some (fetch_item_of v))) (sym one) ∙ t.0 in
    let x = said (fetch_item_of w) (both_true (is_some (fetch_item_of w)) true all).0 in
    let are : items ≡ x.0 ∷ [] = sym k.1 ∙ ap (filter_map fetch_item_of) one ∙ ap (λ o. cons_option o []) x.1 in
    record { front = w; back = rest; parts = e; first = inl (x.0, are, item_sound x.0 w x.1); second = blank_sound rest b }

alone_sound : (w rest bytes : List ℕ) (items : List FetchItem) → bytes ≡ w ++ rest → Outside 32 false w → is_blank rest ≡ true → fetch_word_in w ≡ Some items → Joined (ItemsAre items) Spaces bytes
alone_sound w rest bytes items e o b h =
    elim (either (is_same w (codes "FAST")) (Some fast_items) (fetch_items_in w) (Some items) h) [
      | inl q ↦
          let are : fast_items ≡ items = cc in
          record { front = w; back = rest; parts = e; first = inr (inl (sym are, same_sound (codes "FAST") w q.0)); second = blank_sound rest b }
      | inr q ↦ one_sound w rest bytes items e o b q.1
    ]

pub items_sound : (items : List FetchItem) (bytes : List ℕ) → fetch_items_at bytes ≡ Some items → Joined (ItemsAre items) Spaces bytes
items_sound items bytes e =
    elim (either (first_is 40 bytes) (items_in_parentheses bytes >>= fetch_items_in) (items_bare bytes) (Some items) e) [
      | inl q ↦
          let k = bind_some (items_in_parentheses bytes) fetch_items_in items q.1 in
          parens_sound bytes k.0 items k.1 k.2
      | inr q ↦
          elim (either (is_blank (item_word_at bytes).1) (fetch_word_in (item_word_at bytes).0) None (Some items) q.1) [
            | inl r ↦
                alone_sound (item_word_at bytes).0 (item_word_at bytes).1 bytes items (sym (take-append-drop (outside_len 32 false bytes) bytes)) (front 32 false bytes).outside r.0 r.1
            | inr r ↦ absurd (let bad : None ≡ Some items = r.1 in cc)
          ]
    ]

-- ---- flags

flag_again : (w : List ℕ) → Flag w → is_flag w ≡ true
flag_again w (inl h) =
    let bare : first_is 92 w ≡ false = ap (first_is 92) (sym (append_none w)) ∙ first_other 92 w [] h.0 (many_map is_atom (is_other 92) (λ b e. excludes is_atom 92 refl b e) w h.1) in
    ap (λ (t : Bool). is_flag_after (cond t (Some (drop 1 w)) None) w) bare ∙ word_of_again is_atom w h
flag_again w (inr q) =
    let whole : w ≡ 92 ∷ q.back = q.parts ∙ ap (λ l. l ++ q.back) q.first in
    ap is_flag whole ∙ word_of_again is_atom q.back q.second

flag_case : (w : List ℕ) (o : Option (List ℕ)) → past_byte 92 w ≡ o → is_flag_after o w ≡ true → Flag w
flag_case w None e h = inl (word_of_sound is_atom w h)
flag_case w (Some rest) e h = inr (record { front = 92 ∷ []; back = rest; parts = byte_sound 92 w rest e; first = refl; second = word_of_sound is_atom rest h })

flag_sound : (w : List ℕ) → is_flag w ≡ true → Flag w
flag_sound w e = flag_case w (past_byte 92 w) refl e

-- a byte of a flag
abbrev is_flag_byte : ℕ → Bool
is_flag_byte b = is_atom b || (b == 92)

or_first : (a b : Bool) → a ≡ true → (a || b) ≡ true
or_first true b e = refl
or_first false b e = absurd cc

flag_bytes : (w : List ℕ) → Flag w → Some1 is_flag_byte w
flag_bytes w (inl h) = (h.0, many_map is_atom is_flag_byte (λ b e. or_first (is_atom b) (b == 92) e) w h.1)
flag_bytes w (inr q) =
    let whole : w ≡ 92 ∷ q.back = q.parts ∙ ap (λ l. l ++ q.back) q.first in
    subst (Some1 is_flag_byte) (sym whole) (omega arith, (refl, many_map is_atom is_flag_byte (λ b e. or_first (is_atom b) (b == 92) e) q.back q.second.1))

one_flag : List ℕ → Option (List ℕ)
one_flag w = cond (is_flag w) (Some w) None

flag_word_again : (word t : List ℕ) → FlagWord word t → one_flag t ≡ Some word
unfolding one_flag
flag_word_again word t h = ap one_flag h.0 ∙ ap (λ (b : Bool). cond b (Some word) None) (flag_again word h.1)

flag_word_sound : (word t : List ℕ) → one_flag t ≡ Some word → FlagWord word t
unfolding one_flag
flag_word_sound word t e =
    let k = guard_some (is_flag t) t word e in
    (k.1, subst Flag k.1 (flag_sound t k.0))

flag_word_bytes : (word t : List ℕ) → FlagWord word t → Some1 is_flag_byte t
flag_word_bytes word t h = subst (Some1 is_flag_byte) (sym h.0) (flag_bytes word h.1)

flag_word_clean : (c : ℕ) → is_flag_byte c ≡ false → (word t : List ℕ) → FlagWord word t → Many (is_other c) t
flag_word_clean c e word t h = many_map is_flag_byte (is_other c) (λ b k. excludes is_flag_byte c e b k) t (flag_word_bytes word t h).1

flag_word_bare : (word t : List ℕ) → FlagWord word t → Some1 is_not_space t
flag_word_bare word t h = ((flag_word_bytes word t h).0, flag_word_clean 32 refl word t h)

all_flags : (ws : List (List ℕ)) → list_all (λ w. is_some (one_flag w)) ws ≡ true → (list_all is_flag ws ≡ true) × (filter_map one_flag ws ≡ ws)
unfolding one_flag
all_flags [] e = (refl, refl)
all_flags (w ∷ ws) e =
    let b = both_true (is_some (one_flag w)) (list_all (λ v. is_some (one_flag v)) ws) e in
    let f : is_flag w ≡ true = some_flag (is_flag w) b.0 in
    let r = all_flags ws b.1 in
    (is_both (is_flag w) (list_all is_flag ws) f r.0, ap (λ (t : Bool). cons_option (cond t (Some w) None) (filter_map one_flag ws)) f ∙ ap (λ l. w ∷ l) r.1)
  where
    some_flag : (t : Bool) → is_some (cond t (Some w) None) ≡ true → t ≡ true
    some_flag true k = refl
    some_flag false k = absurd cc

flags_all : (ws : List (List ℕ)) → list_all is_flag ws ≡ true → list_all (λ w. is_some (one_flag w)) ws ≡ true
unfolding one_flag
flags_all [] e = refl
flags_all (w ∷ ws) e =
    let b = both_true (is_flag w) (list_all is_flag ws) e in
    ap (λ (t : Bool). is_some (cond t (Some w) None) && list_all (λ v. is_some (one_flag v)) ws) b.0 ∙ flags_all ws b.1

read_flags : (text : List ℕ) (xs : List (List ℕ)) (flags : Flags) → AllRead one_flag (words text) xs → flags_among xs ≡ flags → flags_in text ≡ Some flags
read_flags text xs flags k e =
    let a = all_flags (words text) k.all in
    let same : words text ≡ xs = sym a.1 ∙ k.are in
    ap (λ (t : Bool). cond t (Some (flags_among (words text))) None) a.0
    ∙ ap (λ ws. Some (flags_among ws)) same
    ∙ ap (λ f. Some f) e

abbrev flags_bare : List ℕ → Option Flags
flags_bare bytes = cond (is_blank bytes) None (flags_in bytes)

not_blank : (bytes : List ℕ) → 0 < length bytes → Stops is_space bytes → is_blank bytes ≡ false
not_blank [] h s = absurd (omega (arith, h))
not_blank (x ∷ xs) h s = ap (λ (t : Bool). t && list_all is_space xs) s

joined_some : (a b : List ℕ) → 0 < length a → 0 < length (a ++ b)
joined_some [] b h = absurd (omega (arith, h))
joined_some (x ∷ a) b h = omega arith

bare_again : (word : List ℕ) (ws : List (List ℕ)) (text sp : List ℕ) (flags : Flags) → Separated Gap FlagWord (word ∷ ws) text → Spaces sp → flags_among (word ∷ ws) ≡ flags
    → flags_at (text ++ sp) ≡ Some flags
bare_again word ws text sp flags q s e =
    let k = words_again one_flag FlagWord flag_word_again flag_word_bare word ws text sp q s in
    let f = flag_word_bytes word q.front q.first in
    let whole : text ++ sp ≡ q.front ++ (q.back ++ sp) = ap (λ l. l ++ sp) q.parts ∙ append_assoc q.front q.back sp in
    let unclosed : first_is 40 (text ++ sp) ≡ false = ap (first_is 40) whole ∙ first_other 40 q.front (q.back ++ sp) f.0 (flag_word_clean 40 refl word q.front q.first) in
    let blank : is_blank (text ++ sp) ≡ false =
    not_blank (text ++ sp) (subst (λ l. 0 < length l) (sym whole) (joined_some q.front (q.back ++ sp) f.0)) (separated_starts FlagWord flag_word_bare word ws text sp q) in
    ap (λ (t : Bool). cond t (in_parentheses (text ++ sp) >>= flags_in) (flags_bare (text ++ sp))) unclosed
    ∙ ap (λ (t : Bool). cond t None (flags_in (text ++ sp))) blank
    ∙ read_flags (text ++ sp) (word ∷ ws) flags k e

inner_again : (ws : List (List ℕ)) (inner sp : List ℕ) (flags : Flags) → FlagWords ws inner → Spaces sp → flags_among ws ≡ flags
    → (in_parentheses ((40 ∷ (inner ++ 41 ∷ [])) ++ sp) >>= flags_in) ≡ Some flags
inner_again [] inner sp flags (inl q) s e = absurd q
inner_again (word ∷ ws) inner sp flags (inl q) s e =
    let k = words_again one_flag FlagWord flag_word_again flag_word_bare word ws inner [] q tt in
    let all : AllRead one_flag (words inner) (word ∷ ws) = subst (λ l. AllRead one_flag (words l) (word ∷ ws)) (append_none inner) k in
    ap (λ o. o >>= flags_in) (paren_again inner sp (separated_many (is_other 41) FlagWord space_open (λ x t h. flag_word_clean 41 refl x t h) word ws inner q) (separated_tight FlagWord flag_word_bare word ws inner q) s)
    ∙ read_flags inner (word ∷ ws) flags all e
inner_again ws inner sp flags (inr h) s e =
    let none : List ℕ = [] in
    ap (λ l. in_parentheses ((40 ∷ (l ++ 41 ∷ [])) ++ sp) >>= flags_in) h.1
    ∙ ap (λ o. o >>= flags_in) (paren_again none sp tt refl s)
    ∙ ap (λ l. Some (flags_among l)) (sym h.0)
    ∙ ap (λ f. Some f) e

-- words of flags between parentheses
pub flag_words_read : (ws : List (List ℕ)) (inner : List ℕ) (flags : Flags) → FlagWords ws inner → flags_among ws ≡ flags
    → Many (is_other 41) inner × (is_tight inner ≡ true) × (flags_in inner ≡ Some flags)
flag_words_read [] inner flags (inl q) e = absurd q
flag_words_read (word ∷ ws) inner flags (inl q) e =
    let k = words_again one_flag FlagWord flag_word_again flag_word_bare word ws inner [] q tt in
    let all : AllRead one_flag (words inner) (word ∷ ws) = subst (λ l. AllRead one_flag (words l) (word ∷ ws)) (append_none inner) k in (
      separated_many (is_other 41) FlagWord space_open (λ x t h. flag_word_clean 41 refl x t h) word ws inner q,
      separated_tight FlagWord flag_word_bare word ws inner q,
      read_flags inner (word ∷ ws) flags all e,
    )
flag_words_read ws inner flags (inr h) e = (
  subst (Many (is_other 41)) (sym h.1) tt,
  ap is_tight h.1,
  ap flags_in h.1 ∙ ap (λ l. Some (flags_among l)) (sym h.0) ∙ ap (λ f. Some f) e,
)

pub flags_again : (flags : Flags) (text sp : List ℕ) → FlagsAre flags text → Spaces sp → flags_at (text ++ sp) ≡ Some flags
flags_again flags text sp ([], e, inl q) s = absurd q
flags_again flags text sp (word ∷ ws, e, inl q) s = bare_again word ws text sp flags q s e
flags_again flags text sp (ws, e, inr q) s =
    let k = paren_text (FlagWords ws) text q in
    let bytes : List ℕ = (40 ∷ (k.0 ++ 41 ∷ [])) ++ sp in
    ap (λ l. flags_at (l ++ sp)) k.1 ∙ inner_again ws k.0 sp flags k.2 s e

flags_found : (bytes : List ℕ) (flags : Flags) → Stops is_space bytes → 0 < length bytes → flags_in bytes ≡ Some flags
    → (w : FoundWords words one_flag FlagWord bytes) × (flags_among (w.found.first ∷ w.found.others) ≡ flags)
flags_found bytes flags s some e =
    let k = guard_some (list_all is_flag (words bytes)) (flags_among (words bytes)) flags e in
    let all = flags_all (words bytes) k.0 in
    let w = words_sound one_flag FlagWord flag_word_sound bytes s some all in
    (w, ap flags_among (sym w.found.are ∙ (all_flags (words bytes) all).1) ∙ k.1)

pub inner_flags : (inner : List ℕ) (flags : Flags) → is_tight inner ≡ true → flags_in inner ≡ Some flags → (ws : List (List ℕ)) × (flags_among ws ≡ flags) × FlagWords ws inner
inner_flags [] flags t e =
    let none : List (List ℕ) = [] in
    (none, (guard_some true (flags_among none) flags e).1, inr (refl, refl))
inner_flags (x ∷ xs) flags t e =
    let inner = x ∷ xs in
    let k = flags_found inner flags (tight_stops inner t) (omega arith) e in
    let w = k.0 in
    let same : inner ≡ w.text = tight_end inner w.text w.spaces w.parts w.blank t in
    (w.found.first ∷ w.found.others, k.1, inl (subst (Separated Gap FlagWord (w.found.first ∷ w.found.others)) (sym same) w.found.is))

some_bytes : (bytes : List ℕ) → is_blank bytes ≡ false → 0 < length bytes
some_bytes [] e = absurd cc
some_bytes (x ∷ xs) e = omega arith

pub flags_sound : (flags : Flags) (bytes : List ℕ) → Stops is_space bytes → flags_at bytes ≡ Some flags → Joined (FlagsAre flags) Spaces bytes
flags_sound flags bytes s e =
    elim (either (first_is 40 bytes) (in_parentheses bytes >>= flags_in) (flags_bare bytes) (Some flags) e) [
      | inl q ↦
          let k = bind_some (in_parentheses bytes) flags_in flags q.1 in
          let p = paren_sound bytes k.0 k.1 in
          let w = inner_flags k.0 flags p.tight k.2 in
          record { front = 40 ∷ (k.0 ++ 41 ∷ []); back = p.spaces; parts = p.parts; first = (w.0, w.1, inr (text_paren (FlagWords w.0) k.0 w.2)); second = p.blank }
      | inr q ↦
          elim (either (is_blank bytes) None (flags_in bytes) (Some flags) q.1) [
            | inl r ↦ absurd (let bad : None ≡ Some flags = r.1 in cc)
            | inr r ↦
                let k = flags_found bytes flags s (some_bytes bytes r.0) r.1 in
                let w = k.0 in
                record { front = w.text; back = w.spaces; parts = w.parts; first = (w.found.first ∷ w.found.others, k.1, inl w.found.is); second = w.blank }
          ]
    ]

-- ---- lists begin with no space

paren_starts : (P : List ℕ → Type 0) (text rest : List ℕ) → Parenthesized P text → Stops is_space (text ++ rest)
paren_starts P text rest q = subst (λ l. Stops is_space (l ++ rest)) (sym (q.parts ∙ ap (λ l. l ++ q.back) q.first)) refl

pub items_starts : (items : List FetchItem) (text rest : List ℕ) → ItemsAre items text → Stops is_space (text ++ rest)
items_starts items text rest (inl h) = item_starts text rest (item_word h.0 text h.2)
items_starts items text rest (inr (inl h)) = item_starts text rest (fast_word text h.1)
items_starts items text rest (inr (inr q)) = paren_starts (Separated Gap ItemIs items) text rest q

pub flags_starts : (flags : Flags) (text rest : List ℕ) → FlagsAre flags text → Stops is_space (text ++ rest)
flags_starts flags text rest ([], e, inl q) = absurd q
flags_starts flags text rest (word ∷ ws, e, inl q) = separated_starts FlagWord flag_word_bare word ws text rest q
flags_starts flags text rest (ws, e, inr q) = paren_starts (FlagWords ws) text rest q
