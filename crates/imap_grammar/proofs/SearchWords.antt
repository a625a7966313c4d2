-- The words of a search, and keys with no other key in them: what is spelled is read, and what is read is spelled.
use Rattle.std.proofs.Common.{◌≡◌, ℕ, ◌<◌, Bool, true, false, cond, List, [], ◌∷◌, ◌++◌, length, take, drop, refl, ap, sym, subst, ◌∙◌, arith}
use Rattle.std.proofs.Common.{append_assoc, inl, inr}
use Rattle.std.specs.Prelude.{Option, Some, None, ◌==◌, ◌&&◌, ◌||◌, not, map}
use Rattle.std.specs.Char.{to_ascii_lowercase}
use Rattle.std.specs.List.{list_all, prefix_len}
use Rattle.std.specs.Option.{option_map}
use Rattle.std.specs.Str.{bytes_eq, str_eq_ignore_ascii_case as is_same}
use Rattle.std.proofs.lemmas.Bool.Decides.{Decides-eqb, nat_tests}
use Rattle.std.proofs.lemmas.List.{take_at, drop_at, take-append-drop}
use Rattle.envelope.proofs.Case.{decides_false}
use Rattle.envelope.proofs.Sound.{bind_some, map_some, guard_some}
use Rattle.envelope.proofs.Tails.{each_of}
use Rattle.envelope.proofs.Tokens.{Stops, span_len, first_not}
use Rattle.envelope.proofs.Words.{both_true}
use Rattle.envelope.specs.Bytes.{is_space}
use Rattle.envelope.specs.Grammar.{Many, Some1, Gap, Keyword, Joined}
use Rattle.envelope.specs.Reading.{◌>>=◌, past_byte}
use Rattle.imap_grammar.specs.Bytes.{is_atom, is_digit, is_key_byte}
use Rattle.imap_grammar.specs.Front.{past_gap}
use Rattle.imap_grammar.specs.Grammar.{DateIs, Name, Number63, SetIs, SingleIs}
use Rattle.imap_grammar.specs.Items.{greatest_span, is_word_of}
use Rattle.imap_grammar.specs.Keys.{Key, field_name}
use Rattle.imap_grammar.specs.Keys as keys
use Rattle.imap_grammar.specs.Numbers.{number_up_to}
use Rattle.imap_grammar.specs.Sets.{set_at}
use Rattle.imap_grammar.specs.SearchReading.{Reader, spelling, flag_words, other_words, text_words, word_among, or_word, key_word_of, key_word_at, argument_key}
use Rattle.imap_grammar.specs.SearchReading.{date_in, argument_at, string_behind, words_at, header_at, single_at, key_of, with_key, either_at, worded_at}
use Rattle.imap_grammar.specs.Strings.{string_at}
use Rattle.imap_grammar.specs.declared.dates.Day.{Day}
use Rattle.imap_grammar.specs.declared.key_words.HeaderField.TheVariants as fields
use Rattle.imap_grammar.specs.declared.key_words.SystemFlag.TheVariants.{Answered}
use Rattle.imap_grammar.specs.declared.key_words.KeyWord.{KeyWord}
use Rattle.imap_grammar.specs.declared.key_words.KeyWord.TheVariants as words
use Rattle.imap_grammar.specs.declared.key_words.SingleKey.{SingleKey}
use Rattle.imap_grammar.specs.declared.key_words.SingleKey.TheVariants as single
use Rattle.imap_grammar.specs.declared.set.SeqRange.{SeqRange}
use Rattle.imap_grammar.proofs.DateLaw.{is_date_byte, date_again, date_all, date_sound}
use Rattle.imap_grammar.proofs.Chains.{inside}
use Rattle.imap_grammar.proofs.Fields.{word_of_again, word_of_sound}
use Rattle.imap_grammar.proofs.Keywords.{word_length, other_case, same_sound}
use Rattle.imap_grammar.proofs.SetLaw.{is_set, set_all, set_again, set_sound, number_again, number_sound}
use Rattle.imap_grammar.proofs.Tokens.{excludes, many_map, not_true, starts, gap_again, gap_sound, string_again, string_sound, string_starts}

-- ---- bytes of words

three_not : (a b c : Bool) → not (a || (b || (c || false))) ≡ true → (not a ≡ true) × (not b ≡ true) × (not c ≡ true)
three_not false false false e = (refl, refl, refl)
three_not _ _ _ e = absurd cc

not_three : (a b c : Bool) → not a ≡ true → not b ≡ true → not c ≡ true → not (a || (b || (c || false))) ≡ true
not_three false false false e f g = refl
not_three _ _ _ e f g = absurd cc

key_byte : (p : ℕ → Bool) → p 32 ≡ false → p 40 ≡ false → p 41 ≡ false → (b : ℕ) → p b ≡ true → is_key_byte b ≡ true
key_byte p x y z b h = not_three (b == 32) (b == 40) (b == 41) (excludes p 32 x b h) (excludes p 40 y b h) (excludes p 41 z b h)

pub no_space : (b : ℕ) → is_key_byte b ≡ true → is_space b ≡ false
no_space b h = not_true (b == 32) (three_not (b == 32) (b == 40) (b == 41) h).0

key_lowered : (b : ℕ) → is_key_byte (to_ascii_lowercase b) ≡ true → is_key_byte b ≡ true
key_lowered b h =
    let low = to_ascii_lowercase b in
    let k = three_not (low == 32) (low == 40) (low == 41) h in
    not_three (b == 32) (b == 40) (b == 41) (other_case 32 b refl k.0) (other_case 40 b refl k.1) (other_case 41 b refl k.2)

pub key_clean : (text low : List ℕ) → map to_ascii_lowercase text ≡ low → Many is_key_byte low → Many is_key_byte text
key_clean [] low h m = tt
key_clean (x ∷ xs) [] h m = absurd cc
key_clean (x ∷ xs) (y ∷ ys) h m =
    let one : to_ascii_lowercase x ≡ y = cc in
    let others : map to_ascii_lowercase xs ≡ ys = cc in
    (key_lowered x (ap is_key_byte one ∙ m.0), key_clean xs ys others m.1)

-- ---- the table of words

known : (w : KeyWord) → key_word_of (spelling w) ≡ Some w
known (words.Has Answered) = refl
known (words.Has _) = refl
known (words.Lacks Answered) = refl
known (words.Lacks _) = refl
known (words.Field fields.Subject) = refl
known (words.Field _) = refl
known words.All = refl
known _ = refl

some_spelled : (w : KeyWord) → 0 < length (spelling w)
some_spelled (words.Has Answered) = omega arith
some_spelled (words.Has _) = omega arith
some_spelled (words.Lacks Answered) = omega arith
some_spelled (words.Lacks _) = omega arith
some_spelled (words.Field fields.Subject) = omega arith
some_spelled (words.Field _) = omega arith
some_spelled words.All = omega arith
some_spelled _ = omega arith

clean_spelled : (w : KeyWord) → list_all is_key_byte (map to_ascii_lowercase (spelling w)) ≡ true
clean_spelled (words.Has Answered) = refl
clean_spelled (words.Has _) = refl
clean_spelled (words.Lacks Answered) = refl
clean_spelled (words.Lacks _) = refl
clean_spelled (words.Field fields.Subject) = refl
clean_spelled (words.Field _) = refl
clean_spelled words.All = refl
clean_spelled _ = refl

pub key_front : (w : KeyWord) (text : List ℕ) → Keyword (spelling w) text → Some1 is_key_byte text
key_front w text h =
    (let n = word_length (spelling w) text h in omega (arith, n, some_spelled w), key_clean text _ h (each_of is_key_byte _ (clean_spelled w)))

same_among : (ws : List KeyWord) (a b : List ℕ) → map to_ascii_lowercase a ≡ map to_ascii_lowercase b → word_among ws a ≡ word_among ws b
same_among [] a b h = refl
same_among (w ∷ ws) a b h =
    ap (λ l. cond (bytes_eq l (map to_ascii_lowercase (spelling w))) (Some w) (word_among ws a)) h
    ∙ ap (λ o. cond (is_same b (spelling w)) (Some w) o) (same_among ws a b h)

pub word_again : (w : KeyWord) (text : List ℕ) → Keyword (spelling w) text → key_word_of text ≡ Some w
word_again w text h =
    ap (λ o. or_word o (or_word (word_among other_words text) (word_among text_words text))) (same_among flag_words text (spelling w) h)
    ∙ ap (λ o. or_word (word_among flag_words (spelling w)) (or_word o (word_among text_words text))) (same_among other_words text (spelling w) h)
    ∙ ap (λ o. or_word (word_among flag_words (spelling w)) (or_word (word_among other_words (spelling w)) o)) (same_among text_words text (spelling w) h)
    ∙ known w

among_case : (t : Bool) (v w : KeyWord) (ws : List KeyWord) (text : List ℕ) → is_same text (spelling v) ≡ t
    → (word_among ws text ≡ Some w → Keyword (spelling w) text)
    → cond t (Some v) (word_among ws text) ≡ Some w → Keyword (spelling w) text
among_case true v w ws text e next h = subst (λ x. Keyword (spelling x) text) (inside v w h) (same_sound (spelling v) text e)
among_case false v w ws text e next h = next h

among_sound : (ws : List KeyWord) (w : KeyWord) (text : List ℕ) → word_among ws text ≡ Some w → Keyword (spelling w) text
among_sound [] w text h = absurd cc
among_sound (v ∷ ws) w text h = among_case (is_same text (spelling v)) v w ws text refl (λ k. among_sound ws w text k) h

or_sound : (o p : Option KeyWord) (w : KeyWord) (P : Type 0) → or_word o p ≡ Some w → (o ≡ Some w → P) → (p ≡ Some w → P) → P
or_sound (Some v) p w P e f g = f e
or_sound None p w P e f g = g e

pub word_sound : (w : KeyWord) (text : List ℕ) → key_word_of text ≡ Some w → Keyword (spelling w) text
word_sound w text e =
    or_sound (word_among flag_words text) (or_word (word_among other_words text) (word_among text_words text)) w (Keyword (spelling w) text) e
    (λ h. among_sound flag_words w text h)
    (λ h. or_sound (word_among other_words text) (word_among text_words text) w (Keyword (spelling w) text) h (λ k. among_sound other_words w text k)
    (λ k. among_sound text_words w text k))

-- a set is no word

set_low : (b : ℕ) → is_set b ≡ true → to_ascii_lowercase b ≡ b
set_low b h = grind (arith, nat_tests)

apart : List ℕ → Bool
apart [] = false
apart (c ∷ cs) = not (is_set c)

differs : (x : ℕ) (xs low : List ℕ) → is_set x ≡ true → apart low ≡ true → bytes_eq (to_ascii_lowercase x ∷ xs) low ≡ false
unfolding apart
differs x xs [] h a = absurd cc
differs x xs (c ∷ cs) h a =
    let other : (to_ascii_lowercase x == c) ≡ false =
    decides_false (to_ascii_lowercase x == c) (Decides-eqb (to_ascii_lowercase x) c) (λ (e : to_ascii_lowercase x ≡ c).
    let same : is_set x ≡ is_set c = ap is_set (sym (set_low x h) ∙ e) in
    let none : is_set c ≡ false = not_true (is_set c) a in
    cc) in
    ap (λ (t : Bool). t && bytes_eq xs cs) other

none_among : (x : ℕ) (xs : List ℕ) (ws : List KeyWord) → is_set x ≡ true → list_all (λ w. apart (map to_ascii_lowercase (spelling w))) ws ≡ true
    → word_among ws (x ∷ xs) ≡ None
none_among x xs [] h a = refl
none_among x xs (w ∷ ws) h a =
    let k = both_true (apart (map to_ascii_lowercase (spelling w))) (list_all (λ w. apart (map to_ascii_lowercase (spelling w))) ws) a in
    ap (λ (t : Bool). cond t (Some w) (word_among ws (x ∷ xs))) (differs x (map to_ascii_lowercase xs) (map to_ascii_lowercase (spelling w)) h k.0)
    ∙ none_among x xs ws h k.1

pub set_no_word : (text : List ℕ) → Some1 is_set text → key_word_of text ≡ None
unfolding apart
set_no_word [] h = absurd (omega (arith, h.0))
set_no_word (x ∷ xs) h =
    ap (λ o. or_word o (or_word (word_among other_words (x ∷ xs)) (word_among text_words (x ∷ xs)))) (none_among x xs flag_words h.1.0 refl)
    ∙ ap (λ o. or_word o (word_among text_words (x ∷ xs))) (none_among x xs other_words h.1.0 refl)
    ∙ none_among x xs text_words h.1.0 refl

pub set_front : (s : List SeqRange) (text : List ℕ) → SetIs s text → Some1 is_key_byte text
set_front s text h = let k = set_all s text h in (k.0, many_map is_set is_key_byte (key_byte is_set refl refl refl) text k.1)

atom_front : (text : List ℕ) → Some1 is_atom text → Some1 is_key_byte text
atom_front text h = (h.0, many_map is_atom is_key_byte (key_byte is_atom refl refl refl) text h.1)

number_front : (n : ℕ) (text : List ℕ) → Number63 n text → Some1 is_key_byte text
number_front n text h = (h.0.0.0, many_map is_digit is_key_byte (key_byte is_digit refl refl refl) text h.0.0.1)

date_front : (d : Day) (text : List ℕ) → DateIs d text → Some1 is_key_byte text
date_front d text h =
    let k = date_all d text h in (k.0, many_map is_date_byte is_key_byte (key_byte is_date_byte refl refl refl) text k.1)

-- ---- words at the front

pub key_word_back : (w rest : List ℕ) → Many is_key_byte w → Stops is_key_byte rest → key_word_at (w ++ rest) ≡ (w, rest)
key_word_back w rest h s =
    let pair : List ℕ → List ℕ → List ℕ × List ℕ = λ a b. (a, b) in
    ap (λ (n : ℕ). pair (take n (w ++ rest)) (drop n (w ++ rest))) (span_len is_key_byte w rest h s)
    ∙ ap (λ (l : List ℕ). pair l (drop (length w) (w ++ rest))) (take_at w rest (length w) refl)
    ∙ ap (λ (l : List ℕ). pair w l) (drop_at w rest (length w) refl)

pub key_word_parts : (bytes : List ℕ) → bytes ≡ (key_word_at bytes).0 ++ (key_word_at bytes).1
key_word_parts bytes = sym (take-append-drop (prefix_len is_key_byte bytes) bytes)

pub gap_ends : (gap rest : List ℕ) → Gap gap → Stops is_key_byte (gap ++ rest)
gap_ends [] rest h = absurd (omega (arith, h.0))
gap_ends (x ∷ xs) rest h = ap is_key_byte ((Decides-eqb x 32).0 h.1.0)

abbrev pub around_at : Reader → List ℕ → Option (Key × List ℕ)
around_at each bytes = either_at each (past_byte 40 bytes) bytes

unopened : (text rest : List ℕ) → Some1 is_key_byte text → past_byte 40 (text ++ rest) ≡ None
unopened text rest h = ap (λ (t : Bool). cond t (Some (drop 1 (text ++ rest))) None) (first_not is_key_byte 40 text rest refl h)

-- what begins with a word that says this
pub begins_word : (each : Reader) (o : Option KeyWord) (text rest : List ℕ) → Some1 is_key_byte text → Stops is_key_byte rest
    → key_word_of text ≡ o → around_at each (text ++ rest) ≡ worded_at each o (text, rest)
begins_word each o text rest h s e =
    ap (λ p. either_at each p (text ++ rest)) (unopened text rest h)
    ∙ ap (λ (c : List ℕ × List ℕ). worded_at each (key_word_of c.0) c) (key_word_back text rest h.1 s)
    ∙ ap (λ x. worded_at each x (text, rest)) e

-- a word, a gap and what follows
pub three_parts : (P Q R : List ℕ → Type 0) (text rest : List ℕ) → (q : Joined P (Joined Q R) text)
    → text ++ rest ≡ q.front ++ (q.second.front ++ (q.second.back ++ rest))
three_parts P Q R text rest q =
    ap (λ l. l ++ rest) (q.parts ∙ ap (λ l. q.front ++ l) q.second.parts)
    ∙ append_assoc q.front (q.second.front ++ q.second.back) rest
    ∙ ap (λ l. q.front ++ l) (append_assoc q.second.front q.second.back rest)

-- ---- single keys, read again

abbrev argument_of : KeyWord → List ℕ × List ℕ → Option (SingleKey × List ℕ)
argument_of w cut = argument_key w cut.0 >>= (λ key. Some (key, cut.1))

argument_again : (each : Reader) (w : KeyWord) (key : SingleKey) (P : List ℕ → Type 0)
    → ((cut : List ℕ × List ℕ) → worded_at each (Some w) cut ≡ option_map with_key (argument_at w cut.1))
    → ((t : List ℕ) → P t → argument_key w t ≡ Some key) → ((t : List ℕ) → P t → Some1 is_key_byte t) → (text rest : List ℕ)
    → Joined (Keyword (spelling w)) (Joined Gap P) text → Stops is_key_byte rest → around_at each (text ++ rest) ≡ Some (key_of key, rest)
argument_again each w key P worded read front text rest q s =
    let g = q.second.front in
    let t = q.second.back in
    let f = front t q.second.second in
    ap (around_at each) (three_parts (Keyword (spelling w)) Gap P text rest q)
    ∙ begins_word each (Some w) q.front (g ++ (t ++ rest)) (key_front w q.front q.first) (gap_ends g (t ++ rest) q.second.first)
    (word_again w q.front q.first)
    ∙ worded (q.front, g ++ (t ++ rest))
    ∙ ap (λ o. option_map with_key (o >>= (λ start. argument_of w (key_word_at start))))
    (gap_again g (t ++ rest) q.second.first (starts is_key_byte no_space t rest f))
    ∙ ap (λ c. option_map with_key (argument_of w c)) (key_word_back t rest f.1 s)
    ∙ ap (λ o. option_map with_key (o >>= (λ k. Some (k, rest)))) (read t q.second.second)

plain_again : (each : Reader) (w : KeyWord) (key : Key) → ((cut : List ℕ × List ℕ) → worded_at each (Some w) cut ≡ Some (key, cut.1))
    → (text rest : List ℕ)
    → Keyword (spelling w) text → Stops is_key_byte rest → around_at each (text ++ rest) ≡ Some (key, rest)
plain_again each w key worded text rest h s = begins_word each (Some w) text rest (key_front w text h) s (word_again w text h) ∙ worded (text, rest)

atom_read : {A : Type 0} (x : A) (t : List ℕ) → Some1 is_atom t → cond (is_word_of is_atom t) (Some x) None ≡ Some x
atom_read x t h = ap (λ (b : Bool). cond b (Some x) None) (word_of_again is_atom t h)

-- ---- strings behind words

-- what ends a word among keys ends an atom
atom_stops : (rest : List ℕ) → Stops is_key_byte rest → Stops is_atom rest
atom_stops [] s = tt
atom_stops (x ∷ xs) s = by (is_atom x) refl
  where
    by : (t : Bool) → is_atom x ≡ t → t ≡ false
    by false e = refl
    by true e = absurd (let bad : is_key_byte x ≡ true = key_byte is_atom refl refl refl x e in cc)

atom_bare : (b : ℕ) → is_atom b ≡ true → is_space b ≡ false
atom_bare b h = no_space b (key_byte is_atom refl refl refl b h)

abbrev some_string : List ℕ → List ℕ → Option (List ℕ × List ℕ)
some_string value rest = Some (value, rest)

-- a gap, a string and what follows
behind_again : (gap value text rest : List ℕ) → Gap gap → Name value text → Stops is_key_byte rest
    → string_behind (gap ++ (text ++ rest)) ≡ some_string value rest
behind_again gap value text rest g n s =
    ap (λ o. o >>= (λ start. string_at is_atom start)) (gap_again gap (text ++ rest) g (string_starts is_atom atom_bare value text rest n))
    ∙ string_again is_atom value text rest refl n (atom_stops rest s)

abbrev words_made : (List ℕ → SingleKey) → List ℕ × List ℕ → Option (SingleKey × List ℕ)
words_made make words = Some (make words.0, words.1)

words_again : (each : Reader) (w : KeyWord) (make : List ℕ → SingleKey) (sought text rest : List ℕ)
    → ((cut : List ℕ × List ℕ) → worded_at each (Some w) cut ≡ option_map with_key (words_at make cut.1))
    → Joined (Keyword (spelling w)) (Joined Gap (Name sought)) text → Stops is_key_byte rest
    → around_at each (text ++ rest) ≡ Some (key_of (make sought), rest)
words_again each w make sought text rest worded q s =
    let g = q.second.front in
    let t = q.second.back in
    ap (around_at each) (three_parts (Keyword (spelling w)) Gap (Name sought) text rest q)
    ∙ begins_word each (Some w) q.front (g ++ (t ++ rest)) (key_front w q.front q.first) (gap_ends g (t ++ rest) q.second.first)
    (word_again w q.front q.first)
    ∙ worded (q.front, g ++ (t ++ rest))
    ∙ ap (λ o. option_map with_key (o >>= words_made make)) (behind_again g sought t rest q.second.first q.second.second s)

abbrev header_made : List ℕ × List ℕ → Option (SingleKey × List ℕ)
header_made name = words_at (single.InField name.0) name.1

header_again : (each : Reader) (name sought text rest : List ℕ)
    → Joined (Keyword (spelling words.Header)) (Joined Gap (Joined (Name name) (Joined Gap (Name sought)))) text → Stops is_key_byte rest
    → around_at each (text ++ rest) ≡ Some (keys.InField name sought, rest)
header_again each name sought text rest q s =
    let g = q.second.front in
    let n = q.second.second in
    let h = n.second.front in
    let t = n.second.back in
    let more = h ++ (t ++ rest) in
    let inner : n.back ++ rest ≡ more = ap (λ l. l ++ rest) n.second.parts ∙ append_assoc h t rest in
    let back : q.second.back ++ rest ≡ n.front ++ more =
    ap (λ l. l ++ rest) n.parts ∙ append_assoc n.front n.back rest ∙ ap (λ l. n.front ++ l) inner in
    ap (around_at each) (three_parts (Keyword (spelling words.Header)) Gap (Joined (Name name) (Joined Gap (Name sought))) text rest q)
    ∙ ap (λ l. around_at each (q.front ++ (g ++ l))) back
    ∙ begins_word each (Some words.Header) q.front (g ++ (n.front ++ more)) (key_front words.Header q.front q.first)
    (gap_ends g (n.front ++ more) q.second.first) (word_again words.Header q.front q.first)
    ∙ ap (λ o. option_map with_key (o >>= header_made)) (behind_again g name n.front more q.second.first n.first (gap_ends h (t ++ rest) n.second.first))
    ∙ ap (λ o. option_map with_key (o >>= words_made (single.InField name))) (behind_again h sought t rest n.second.first n.second.second s)

pub single_again : (each : Reader) (key : Key) (text rest : List ℕ) → SingleIs key text → Stops is_key_byte rest
    → around_at each (text ++ rest) ≡ Some (key, rest)
single_again each keys.Always text rest (inl h) s = plain_again each words.All keys.Always (λ cut. refl) text rest h s
single_again each keys.Always text rest (inr (inl h)) s = plain_again each words.Old keys.Always (λ cut. refl) text rest h s
single_again each keys.Always text rest (inr (inr q)) s =
    argument_again each words.Unkeyword single.Always (Some1 is_atom) (λ cut. refl) (λ t h. atom_read single.Always t h) atom_front text rest q s
single_again each keys.Never text rest (inl h) s = plain_again each words.New keys.Never (λ cut. refl) text rest h s
single_again each keys.Never text rest (inr (inl h)) s = plain_again each words.Recent keys.Never (λ cut. refl) text rest h s
single_again each keys.Never text rest (inr (inr q)) s =
    argument_again each words.Keyword single.Never (Some1 is_atom) (λ cut. refl) (λ t h. atom_read single.Never t h) atom_front text rest q s
single_again each (keys.Has flag) text rest h s = plain_again each (words.Has flag) (keys.Has flag) (λ cut. refl) text rest h s
single_again each (keys.Lacks flag) text rest h s = plain_again each (words.Lacks flag) (keys.Lacks flag) (λ cut. refl) text rest h s
single_again each (keys.Larger n) text rest q s =
    argument_again each words.Larger (single.Larger n) (Number63 n) (λ cut. refl)
    (λ t h. ap (λ o. o >>= (λ k. Some (single.Larger k))) (number_again greatest_span n t h.0 h.1)) (number_front n) text rest q s
single_again each (keys.Smaller n) text rest q s =
    argument_again each words.Smaller (single.Smaller n) (Number63 n) (λ cut. refl)
    (λ t h. ap (λ o. o >>= (λ k. Some (single.Smaller k))) (number_again greatest_span n t h.0 h.1)) (number_front n) text rest q s
single_again each (keys.Before day) text rest q s =
    argument_again each words.Before (single.Before day) (DateIs day) (λ cut. refl)
    (λ t h. ap (λ o. o >>= (λ k. Some (single.Before k))) (date_again day t h)) (date_front day) text rest q s
single_again each (keys.On day) text rest q s =
    argument_again each words.On (single.On day) (DateIs day) (λ cut. refl)
    (λ t h. ap (λ o. o >>= (λ k. Some (single.On k))) (date_again day t h)) (date_front day) text rest q s
single_again each (keys.Since day) text rest q s =
    argument_again each words.Since (single.Since day) (DateIs day) (λ cut. refl)
    (λ t h. ap (λ o. o >>= (λ k. Some (single.Since k))) (date_again day t h)) (date_front day) text rest q s
single_again each (keys.InField name sought) text rest (inl q) s = header_again each name sought text rest q s
single_again each (keys.InField name sought) text rest (inr (field, e, q)) s =
    words_again each (words.Field field) (single.InField (field_name field)) sought text rest (λ cut. refl) q s
    ∙ ap (λ n. Some (keys.InField n sought, rest)) e
single_again each (keys.InBody sought) text rest q s = words_again each words.Body single.InBody sought text rest (λ cut. refl) q s
single_again each (keys.InText sought) text rest q s = words_again each words.Text single.InText sought text rest (λ cut. refl) q s
single_again each (keys.Positions set) text rest h s =
    begins_word each None text rest (set_front set text h) s (set_no_word text (set_all set text h))
    ∙ ap (λ o. option_map with_key (o >>= (λ x. Some (single.Positions x, rest)))) (set_again set text h)
single_again each (keys.Uids set) text rest q s =
    argument_again each words.Uid (single.Uids set) (SetIs set) (λ cut. refl)
    (λ t h. ap (λ o. o >>= (λ k. Some (single.Uids k))) (set_again set t h)) (set_front set) text rest q s
single_again each (keys.Not key) text rest h s = absurd h
single_again each (keys.Or one other) text rest h s = absurd h
single_again each (keys.And one other) text rest h s = absurd h

-- ---- single keys that were read

-- a key at the front
pub record FoundKey (P : Key → List ℕ → Type 0) (key : Key) (bytes rest : List ℕ) : Type 0 where
  pub text : List ℕ
  pub parts : bytes ≡ text ++ rest
  pub is : P key text

abbrev pub some_key : Key → List ℕ → Option (Key × List ℕ)
some_key key rest = Some (key, rest)

pub found : (P : Key → List ℕ → Type 0) (x key : Key) (bytes text rest r : List ℕ) → bytes ≡ text ++ rest → P x text
    → some_key x rest ≡ some_key key r → FoundKey P key bytes r
found P x key bytes text rest r e h same =
    let a : Key × List ℕ = (x, rest) in
    let b : Key × List ℕ = (key, r) in
    let k : a ≡ b = inside a b same in
    record { text = text; parts = e ∙ ap (λ (p : Key × List ℕ). text ++ p.1) k; is = subst (λ y. P y text) (ap (λ (p : Key × List ℕ). p.0) k) h }

record FoundArgument (w : KeyWord) (key : Key) (bytes word r : List ℕ) : Type 0 where
  single : SingleKey
  said : key_of single ≡ key
  gap : List ℕ
  argument : List ℕ
  parts : bytes ≡ (word ++ (gap ++ argument)) ++ r
  is_gap : Gap gap
  read : argument_key w argument ≡ Some single

argument_sound : (w : KeyWord) (key : Key) (bytes word rest r : List ℕ) → bytes ≡ word ++ rest
    → option_map with_key (argument_at w rest) ≡ Some (key, r) → FoundArgument w key bytes word r
argument_sound w key bytes word rest r e h =
    let b : Key × List ℕ = (key, r) in
    let k = map_some with_key (argument_at w rest) b h in
    let g = bind_some (past_gap rest) (λ start. argument_of w (key_word_at start)) k.0 k.1 in
    let c = key_word_at g.0 in
    let a = bind_some (argument_key w c.0) (λ key. Some (key, c.1)) k.0 g.2 in
    let pair : SingleKey × List ℕ = (a.0, c.1) in
    let same : with_key pair ≡ b = ap with_key (inside pair k.0 a.2) ∙ k.2 in
    let s = gap_sound rest g.0 g.1 in
    let end : c.1 ≡ r = ap (λ (p : Key × List ℕ). p.1) same in
    record {
      single = a.0;
      said = ap (λ (p : Key × List ℕ). p.0) same;
      gap = s.gap;
      argument = c.0;
      parts = e
          ∙ ap (λ l. word ++ l) (s.parts ∙ ap (λ l. s.gap ++ l) (key_word_parts g.0 ∙ ap (λ l. c.0 ++ l) end))
          ∙ ap (λ l. word ++ l) (sym (append_assoc s.gap c.0 r))
          ∙ sym (append_assoc word (s.gap ++ c.0) r);
      is_gap = s.is;
      read = a.1;
    }

argument_is : (w : KeyWord) (P : List ℕ → Type 0) (word gap argument : List ℕ) → Keyword (spelling w) word → Gap gap → P argument
    → Joined (Keyword (spelling w)) (Joined Gap P) (word ++ (gap ++ argument))
argument_is w P word gap argument h g p = record {
  front = word;
  back = gap ++ argument;
  parts = refl;
  first = h;
  second = record { front = gap; back = argument; parts = refl; first = g; second = p };
}

made : (w : KeyWord) (x : SingleKey) (key : Key) (bytes word r : List ℕ) → (f : FoundArgument w key bytes word r) → x ≡ f.single
    → SingleIs (key_of x) (word ++ (f.gap ++ f.argument)) → FoundKey SingleIs key bytes r
made w x key bytes word r f e h = record {
  text = word ++ (f.gap ++ f.argument);
  parts = f.parts;
  is = subst (λ y. SingleIs y (word ++ (f.gap ++ f.argument))) (ap key_of e ∙ f.said) h;
}

-- a string that was read behind a gap
record FoundWords (value bytes rest : List ℕ) : Type 0 where
  text : List ℕ
  parts : bytes ≡ text ++ rest
  is : Joined Gap (Name value) text

behind_sound : (bytes value rest : List ℕ) → string_behind bytes ≡ some_string value rest → FoundWords value bytes rest
behind_sound bytes value rest e =
    let b : List ℕ × List ℕ = (value, rest) in
    let g = bind_some (past_gap bytes) (λ start. string_at is_atom start) b e in
    let s = gap_sound bytes g.0 g.1 in
    let f = string_sound is_atom refl g.0 value rest g.2 in
    record {
      text = s.gap ++ f.text;
      parts = s.parts ∙ ap (λ l. s.gap ++ l) f.parts ∙ sym (append_assoc s.gap f.text rest);
      is = record { front = s.gap; back = f.text; parts = refl; first = s.is; second = f.is };
    }

-- a key that was made of such a string
record FoundMade (make : List ℕ → SingleKey) (key : Key) (bytes rest : List ℕ) : Type 0 where
  value : List ℕ
  said : key_of (make value) ≡ key
  found : FoundWords value bytes rest

made_sound : (make : List ℕ → SingleKey) (key : Key) (bytes rest : List ℕ) → option_map with_key (words_at make bytes) ≡ some_key key rest
    → FoundMade make key bytes rest
made_sound make key bytes rest e =
    let b : Key × List ℕ = (key, rest) in
    let k = map_some with_key (words_at make bytes) b e in
    let i = bind_some (string_behind bytes) (words_made make) k.0 k.1 in
    let pair : SingleKey × List ℕ = (make i.0.0, i.0.1) in
    let same : with_key pair ≡ b = ap with_key (inside pair k.0 i.2) ∙ k.2 in
    let end : i.0.1 ≡ rest = ap (λ (p : Key × List ℕ). p.1) same in
    record {
      value = i.0.0;
      said = ap (λ (p : Key × List ℕ). p.0) same;
      found = behind_sound bytes i.0.0 rest (i.1 ∙ ap (λ l. some_string i.0.0 l) end);
    }

words_sound : (w : KeyWord) (make : List ℕ → SingleKey) (key : Key) (bytes word after rest : List ℕ)
    → ((sought text : List ℕ) → Joined (Keyword (spelling w)) (Joined Gap (Name sought)) text → SingleIs (key_of (make sought)) text)
    → bytes ≡ word ++ after → Keyword (spelling w) word → option_map with_key (words_at make after) ≡ some_key key rest → FoundKey SingleIs key bytes rest
words_sound w make key bytes word after rest is e h k =
    let f = made_sound make key after rest k in
    let text : List ℕ = word ++ f.found.text in
    record {
      text = text;
      parts = e ∙ ap (λ l. word ++ l) f.found.parts ∙ sym (append_assoc word f.found.text rest);
      is = subst (λ y. SingleIs y text) f.said
          (is f.value text (record { front = word; back = f.found.text; parts = refl; first = h; second = f.found.is }));
    }

header_sound : (key : Key) (bytes word after rest : List ℕ) → bytes ≡ word ++ after → Keyword (spelling words.Header) word
    → option_map with_key (header_at after) ≡ some_key key rest → FoundKey SingleIs key bytes rest
header_sound key bytes word after rest e h k =
    let b : Key × List ℕ = (key, rest) in
    let m = map_some with_key (header_at after) b k in
    let i = bind_some (string_behind after) header_made m.0 m.1 in
    let n = behind_sound after i.0.0 i.0.1 i.1 in
    let last : option_map with_key (words_at (single.InField i.0.0) i.0.1) ≡ some_key key rest =
    ap (option_map with_key) i.2 ∙ ap (λ (p : Key × List ℕ). Some p) m.2 in
    let f = made_sound (single.InField i.0.0) key i.0.1 rest last in
    let back : List ℕ = n.is.back ++ f.found.text in
    let text : List ℕ = word ++ (n.is.front ++ back) in
    let middle : after ≡ (n.is.front ++ back) ++ rest =
    n.parts ∙ ap (λ l. l ++ i.0.1) n.is.parts ∙ append_assoc n.is.front n.is.back i.0.1
    ∙ ap (λ l. n.is.front ++ (n.is.back ++ l)) f.found.parts
    ∙ ap (λ l. n.is.front ++ l) (sym (append_assoc n.is.back f.found.text rest))
    ∙ sym (append_assoc n.is.front back rest) in
    let spelled : Joined (Keyword (spelling words.Header)) (Joined Gap (Joined (Name i.0.0) (Joined Gap (Name f.value)))) text = record {
      front = word;
      back = n.is.front ++ back;
      parts = refl;
      first = h;
      second = record {
        front = n.is.front;
        back = back;
        parts = refl;
        first = n.is.first;
        second = record { front = n.is.back; back = f.found.text; parts = refl; first = n.is.second; second = f.found.is };
      };
    } in
    record {
      text = text;
      parts = e ∙ ap (λ l. word ++ l) middle ∙ sym (append_assoc word (n.is.front ++ back) rest);
      is = subst (λ y. SingleIs y text) f.said (inl spelled);
    }

pub single_sound : (w : KeyWord) (key : Key) (bytes text rest r : List ℕ) → bytes ≡ text ++ rest → Keyword (spelling w) text
    → option_map with_key (single_at (Some w) (text, rest)) ≡ Some (key, r) → FoundKey SingleIs key bytes r
single_sound words.All key bytes text rest r e h k = found SingleIs keys.Always key bytes text rest r e (inl h) k
single_sound words.Old key bytes text rest r e h k = found SingleIs keys.Always key bytes text rest r e (inr (inl h)) k
single_sound words.New key bytes text rest r e h k = found SingleIs keys.Never key bytes text rest r e (inl h) k
single_sound words.Recent key bytes text rest r e h k = found SingleIs keys.Never key bytes text rest r e (inr (inl h)) k
single_sound (words.Has flag) key bytes text rest r e h k = found SingleIs (keys.Has flag) key bytes text rest r e h k
single_sound (words.Lacks flag) key bytes text rest r e h k = found SingleIs (keys.Lacks flag) key bytes text rest r e h k
single_sound words.Keyword key bytes text rest r e h k =
    let f = argument_sound words.Keyword key bytes text rest r e k in
    let g = guard_some (is_word_of is_atom f.argument) single.Never f.single f.read in
    made words.Keyword single.Never key bytes text r f g.1
    (inr (inr (argument_is words.Keyword (Some1 is_atom) text f.gap f.argument h f.is_gap (word_of_sound is_atom f.argument g.0))))
single_sound words.Unkeyword key bytes text rest r e h k =
    let f = argument_sound words.Unkeyword key bytes text rest r e k in
    let g = guard_some (is_word_of is_atom f.argument) single.Always f.single f.read in
    made words.Unkeyword single.Always key bytes text r f g.1
    (inr (inr (argument_is words.Unkeyword (Some1 is_atom) text f.gap f.argument h f.is_gap (word_of_sound is_atom f.argument g.0))))
single_sound words.Larger key bytes text rest r e h k =
    let f = argument_sound words.Larger key bytes text rest r e k in
    let g = bind_some (number_up_to greatest_span f.argument) (λ n. Some (single.Larger n)) f.single f.read in
    made words.Larger (single.Larger g.0) key bytes text r f (inside (single.Larger g.0) f.single g.2)
    (argument_is words.Larger (Number63 g.0) text f.gap f.argument h f.is_gap (number_sound greatest_span g.0 f.argument g.1))
single_sound words.Smaller key bytes text rest r e h k =
    let f = argument_sound words.Smaller key bytes text rest r e k in
    let g = bind_some (number_up_to greatest_span f.argument) (λ n. Some (single.Smaller n)) f.single f.read in
    made words.Smaller (single.Smaller g.0) key bytes text r f (inside (single.Smaller g.0) f.single g.2)
    (argument_is words.Smaller (Number63 g.0) text f.gap f.argument h f.is_gap (number_sound greatest_span g.0 f.argument g.1))
single_sound words.Before key bytes text rest r e h k =
    let f = argument_sound words.Before key bytes text rest r e k in
    let g = bind_some (date_in f.argument) (λ d. Some (single.Before d)) f.single f.read in
    made words.Before (single.Before g.0) key bytes text r f (inside (single.Before g.0) f.single g.2)
    (argument_is words.Before (DateIs g.0) text f.gap f.argument h f.is_gap (date_sound g.0 f.argument g.1))
single_sound words.On key bytes text rest r e h k =
    let f = argument_sound words.On key bytes text rest r e k in
    let g = bind_some (date_in f.argument) (λ d. Some (single.On d)) f.single f.read in
    made words.On (single.On g.0) key bytes text r f (inside (single.On g.0) f.single g.2)
    (argument_is words.On (DateIs g.0) text f.gap f.argument h f.is_gap (date_sound g.0 f.argument g.1))
single_sound words.Since key bytes text rest r e h k =
    let f = argument_sound words.Since key bytes text rest r e k in
    let g = bind_some (date_in f.argument) (λ d. Some (single.Since d)) f.single f.read in
    made words.Since (single.Since g.0) key bytes text r f (inside (single.Since g.0) f.single g.2)
    (argument_is words.Since (DateIs g.0) text f.gap f.argument h f.is_gap (date_sound g.0 f.argument g.1))
single_sound words.Header key bytes text rest r e h k = header_sound key bytes text rest r e h k
single_sound (words.Field field) key bytes text rest r e h k =
    words_sound (words.Field field) (single.InField (field_name field)) key bytes text rest r (λ l t q. inr (field, refl, q)) e h k
single_sound words.Body key bytes text rest r e h k = words_sound words.Body single.InBody key bytes text rest r (λ l t q. q) e h k
single_sound words.Text key bytes text rest r e h k = words_sound words.Text single.InText key bytes text rest r (λ l t q. q) e h k
single_sound words.Uid key bytes text rest r e h k =
    let f = argument_sound words.Uid key bytes text rest r e k in
    let g = bind_some (set_at f.argument) (λ s. Some (single.Uids s)) f.single f.read in
    made words.Uid (single.Uids g.0) key bytes text r f (inside (single.Uids g.0) f.single g.2)
    (argument_is words.Uid (SetIs g.0) text f.gap f.argument h f.is_gap (set_sound g.0 f.argument g.1))
single_sound words.Not key bytes text rest r e h k =
    let f = argument_sound words.Not key bytes text rest r e k in absurd (let bad : None ≡ Some f.single = f.read in cc)
single_sound words.Or key bytes text rest r e h k =
    let f = argument_sound words.Or key bytes text rest r e k in absurd (let bad : None ≡ Some f.single = f.read in cc)
single_sound words.Charset key bytes text rest r e h k =
    let f = argument_sound words.Charset key bytes text rest r e k in absurd (let bad : None ≡ Some f.single = f.read in cc)
single_sound words.Return key bytes text rest r e h k =
    let f = argument_sound words.Return key bytes text rest r e k in absurd (let bad : None ≡ Some f.single = f.read in cc)

pub set_found : (key : Key) (bytes text rest r : List ℕ) → bytes ≡ text ++ rest → option_map with_key (single_at None (text, rest)) ≡ Some (key, r)
    → FoundKey SingleIs key bytes r
set_found key bytes text rest r e h =
    let b : Key × List ℕ = (key, r) in
    let k = map_some with_key (single_at None (text, rest)) b h in
    let s = bind_some (set_at text) (λ set. Some (single.Positions set, rest)) k.0 k.1 in
    let pair : SingleKey × List ℕ = (single.Positions s.0, rest) in
    let a : Key × List ℕ = (keys.Positions s.0, rest) in
    let same : a ≡ b = ap with_key (inside pair k.0 s.2) ∙ k.2 in
    found SingleIs (keys.Positions s.0) key bytes text rest r e (set_sound s.0 text s.1) (ap (λ (p : Key × List ℕ). Some p) same)

pub no_charset_key : (key : Key) (rest r : List ℕ) → option_map with_key (argument_at words.Charset rest) ≡ Some (key, r) → ⊥
no_charset_key key rest r h = let f = argument_sound words.Charset key rest [] rest r refl h in let bad : None ≡ Some f.single = f.read in cc

pub no_return_key : (key : Key) (rest r : List ℕ) → option_map with_key (argument_at words.Return rest) ≡ Some (key, r) → ⊥
no_return_key key rest r h = let f = argument_sound words.Return key rest [] rest r refl h in let bad : None ≡ Some f.single = f.read in cc
