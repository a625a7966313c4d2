-- The keys of a search: what is spelled is read, and what is read is spelled.
use Rattle.std.proofs.Common.{◌≡◌, ℕ, zero, suc, ◌<◌, Bool, false, cond, List, [], ◌∷◌, ◌++◌, length, refl, ap, sym, subst, ◌∙◌, arith}
use Rattle.std.proofs.Common.{append_assoc, length-append, inl, inr}
use Rattle.std.specs.Prelude.{Option, Some, None, codes, ◌&&◌, ◌⊎◌}
use Rattle.envelope.proofs.Sound.{bind_some, guard_some, either, byte_sound}
use Rattle.envelope.proofs.Tokens.{Stops}
use Rattle.envelope.proofs.Words.{append_none}
use Rattle.envelope.specs.Bytes.{is_space}
use Rattle.envelope.specs.Grammar.{Some1, Spaces, Gap, Keyword, Joined}
use Rattle.envelope.specs.Reading.{◌>>=◌, past_byte}
use Rattle.imap_grammar.specs.Bytes.{is_key_byte}
use Rattle.imap_grammar.specs.Front.{past_gap, is_blank}
use Rattle.imap_grammar.specs.Grammar.{SingleIs, AroundIs, KeysOf, KeyIs, Others, Parenthesized}
use Rattle.imap_grammar.specs.Keys.{Key, all_of}
use Rattle.imap_grammar.specs.Keys as keys
use Rattle.imap_grammar.specs.SearchReading.{Reader, spelling, key_word_of, key_word_at, not_at, or_at, next_start, others_from, others_at, keys_at}
use Rattle.imap_grammar.specs.SearchReading.{group_at, worded_at, either_at, key_at, keys_in}
use Rattle.imap_grammar.specs.declared.key_words.KeyWord.{KeyWord}
use Rattle.imap_grammar.specs.declared.key_words.KeyWord.TheVariants as words
use Rattle.imap_grammar.proofs.Chains.{inside}
use Rattle.imap_grammar.proofs.ListLaw.{paren_text, text_paren}
use Rattle.imap_grammar.proofs.Parens.{blank_again, blank_sound}
use Rattle.imap_grammar.proofs.SearchWords.{FoundKey, around_at, begins_word, found, gap_ends, key_front, key_word_parts, no_charset_key, no_return_key, no_space}
use Rattle.imap_grammar.proofs.SearchWords.{set_found, set_front, single_again, single_sound, three_parts, word_again, word_sound}
use Rattle.imap_grammar.proofs.Tokens.{gap_again, gap_sound}

-- ---- where a key begins

-- a text that begins, and not with a space
record Begun (text : List ℕ) : Type 0 where
  first : ℕ
  others : List ℕ
  is : text ≡ first ∷ others
  bare : is_space first ≡ false

begun_word : (text front back : List ℕ) → text ≡ front ++ back → Some1 is_key_byte front → Begun text
begun_word text [] back e h = absurd (omega (arith, h.0))
begun_word text (x ∷ xs) back e h = record { first = x; others = xs ++ back; is = e; bare = no_space x h.1.0 }

begun_stops : (text rest : List ℕ) → Begun text → Stops is_space (text ++ rest)
begun_stops text rest b = subst (λ l. Stops is_space (l ++ rest)) (sym b.is) b.bare

begun_some : (text : List ℕ) → Begun text → 0 < length text
begun_some text b = omega (arith, ap length b.is)

begun_single : (key : Key) (text : List ℕ) → SingleIs key text → Begun text
begun_single keys.Always text (inl h) = begun_word text text [] (sym (append_none text)) (key_front words.All text h)
begun_single keys.Always text (inr (inl h)) = begun_word text text [] (sym (append_none text)) (key_front words.Old text h)
begun_single keys.Always text (inr (inr q)) = begun_word text q.front q.back q.parts (key_front words.Unkeyword q.front q.first)
begun_single keys.Never text (inl h) = begun_word text text [] (sym (append_none text)) (key_front words.New text h)
begun_single keys.Never text (inr (inl h)) = begun_word text text [] (sym (append_none text)) (key_front words.Recent text h)
begun_single keys.Never text (inr (inr q)) = begun_word text q.front q.back q.parts (key_front words.Keyword q.front q.first)
begun_single (keys.Has flag) text h = begun_word text text [] (sym (append_none text)) (key_front (words.Has flag) text h)
begun_single (keys.Lacks flag) text h = begun_word text text [] (sym (append_none text)) (key_front (words.Lacks flag) text h)
begun_single (keys.Larger n) text q = begun_word text q.front q.back q.parts (key_front words.Larger q.front q.first)
begun_single (keys.Smaller n) text q = begun_word text q.front q.back q.parts (key_front words.Smaller q.front q.first)
begun_single (keys.Before day) text q = begun_word text q.front q.back q.parts (key_front words.Before q.front q.first)
begun_single (keys.On day) text q = begun_word text q.front q.back q.parts (key_front words.On q.front q.first)
begun_single (keys.Since day) text q = begun_word text q.front q.back q.parts (key_front words.Since q.front q.first)
begun_single (keys.InField name sought) text (inl q) = begun_word text q.front q.back q.parts (key_front words.Header q.front q.first)
begun_single (keys.InField name sought) text (inr (field, e, q)) =
    begun_word text q.front q.back q.parts (key_front (words.Field field) q.front q.first)
begun_single (keys.InBody sought) text q = begun_word text q.front q.back q.parts (key_front words.Body q.front q.first)
begun_single (keys.InText sought) text q = begun_word text q.front q.back q.parts (key_front words.Text q.front q.first)
begun_single (keys.Positions set) text h = begun_word text text [] (sym (append_none text)) (set_front set text h)
begun_single (keys.Uids set) text q = begun_word text q.front q.back q.parts (key_front words.Uid q.front q.first)
begun_single (keys.Not key) text h = absurd h
begun_single (keys.Or one other) text h = absurd h
begun_single (keys.And one other) text h = absurd h

-- ---- a reader and the rule that it reads by

record Law (each : Reader) (P : Key → List ℕ → Type 0) : Type 0 where
  again : (key : Key) (text rest : List ℕ) → P key text → Stops is_key_byte rest → each (text ++ rest) ≡ Some (key, rest)
  sound : (bytes : List ℕ) (key : Key) (rest : List ℕ) → each bytes ≡ Some (key, rest) → FoundKey P key bytes rest
  begun : (key : Key) (text : List ℕ) → P key text → Begun text

-- ---- NOT and OR

not_made : List ℕ → Key → Option (Key × List ℕ)
not_made rest key = Some (keys.Not key, rest)

abbrev not_read : Key × List ℕ → Option (Key × List ℕ)
not_read inner = Some (keys.Not inner.0, inner.1)

not_again : (each : Reader) (P : Key → List ℕ → Type 0) → Law each P → (inner : Key) (text rest : List ℕ)
    → Joined (Keyword (codes "NOT")) (Joined Gap (P inner)) text → Stops is_key_byte rest
    → around_at each (text ++ rest) ≡ Some (keys.Not inner, rest)
not_again each P law inner text rest q s =
    let g = q.second.front in
    let t = q.second.back in
    ap (around_at each) (three_parts (Keyword (codes "NOT")) Gap (P inner) text rest q)
    ∙ begins_word each (Some words.Not) q.front (g ++ (t ++ rest)) (key_front words.Not q.front q.first) (gap_ends g (t ++ rest) q.second.first)
    (word_again words.Not q.front q.first)
    ∙ ap (λ o. o >>= (λ start. each start >>= not_read))
    (gap_again g (t ++ rest) q.second.first (begun_stops t rest (law.begun inner t q.second.second)))
    ∙ ap (λ o. o >>= not_read) (law.again inner t rest q.second.second s)

abbrev or_read : Key → Key × List ℕ → Option (Key × List ℕ)
or_read one other = Some (keys.Or one other.0, other.1)

abbrev or_next : Reader → Key × List ℕ → Option (Key × List ℕ)
or_next each one = past_gap one.1 >>= (λ next. each next >>= or_read one.0)

five_parts : (P Q R S T : List ℕ → Type 0) (text rest : List ℕ) → (q : Joined P (Joined Q (Joined R (Joined S T))) text)
    → text ++ rest ≡ q.front ++
    (q.second.front ++ (q.second.second.front ++ (q.second.second.second.front ++ (q.second.second.second.back ++ rest))))
five_parts P Q R S T text rest q =
    let r = q.second.second in
    three_parts P Q (Joined R (Joined S T)) text rest q
    ∙ ap (λ l. q.front ++ (q.second.front ++ l)) (three_parts R S T q.second.back rest r)

or_again : (each : Reader) (P : Key → List ℕ → Type 0) → Law each P → (one other : Key) (text rest : List ℕ)
    → Joined (Keyword (codes "OR")) (Joined Gap (Joined (P one) (Joined Gap (P other)))) text → Stops is_key_byte rest
    → around_at each (text ++ rest) ≡ Some (keys.Or one other, rest)
or_again each P law one other text rest q s =
    let g = q.second.front in
    let a = q.second.second.front in
    let h = q.second.second.second.front in
    let b = q.second.second.second.back in
    let first = q.second.second.first in
    let last = q.second.second.second.second in
    let more = h ++ (b ++ rest) in
    ap (around_at each) (five_parts (Keyword (codes "OR")) Gap (P one) Gap (P other) text rest q)
    ∙ begins_word each (Some words.Or) q.front (g ++ (a ++ more)) (key_front words.Or q.front q.first) (gap_ends g (a ++ more) q.second.first)
    (word_again words.Or q.front q.first)
    ∙ ap (λ o. o >>= (λ start. each start >>= or_next each)) (gap_again g (a ++ more) q.second.first (begun_stops a more (law.begun one a first)))
    ∙ ap (λ o. o >>= or_next each) (law.again one a more first (gap_ends h (b ++ rest) q.second.second.second.first))
    ∙ ap (λ o. o >>= (λ next. each next >>= or_read one))
    (gap_again h (b ++ rest) q.second.second.second.first (begun_stops b rest (law.begun other b last)))
    ∙ ap (λ o. o >>= or_read one) (law.again other b rest last s)

not_sound : (each : Reader) (P : Key → List ℕ → Type 0) → Law each P → (bytes word after : List ℕ) (key : Key) (rest : List ℕ)
    → bytes ≡ word ++ after → Keyword (codes "NOT") word
    → not_at each after ≡ Some (key, rest) → FoundKey (AroundIs P) key bytes rest
not_sound each P law bytes word after key rest e h k =
    let b : Key × List ℕ = (key, rest) in
    let g = bind_some (past_gap after) (λ start. each start >>= not_read) b k in
    let i = bind_some (each g.0) not_read b g.2 in
    let f = law.sound g.0 i.0.0 i.0.1 i.1 in
    let s = gap_sound after g.0 g.1 in
    let whole : bytes ≡ (word ++ (s.gap ++ f.text)) ++ i.0.1 =
    e ∙ ap (λ l. word ++ l) (s.parts ∙ ap (λ l. s.gap ++ l) f.parts) ∙ ap (λ l. word ++ l) (sym (append_assoc s.gap f.text i.0.1))
    ∙ sym (append_assoc word (s.gap ++ f.text) i.0.1) in
    found (AroundIs P) (keys.Not i.0.0) key bytes (word ++ (s.gap ++ f.text)) i.0.1 rest whole
    (inl (
      i.0.0,
      refl,
      record {
        front = word;
        back = s.gap ++ f.text;
        parts = refl;
        first = h;
        second = record { front = s.gap; back = f.text; parts = refl; first = s.is; second = f.is };
      },
    )) i.2

or_sound : (each : Reader) (P : Key → List ℕ → Type 0) → Law each P → (bytes word after : List ℕ) (key : Key) (rest : List ℕ)
    → bytes ≡ word ++ after → Keyword (codes "OR") word
    → or_at each after ≡ Some (key, rest) → FoundKey (AroundIs P) key bytes rest
or_sound each P law bytes word after key rest e h k =
    let b : Key × List ℕ = (key, rest) in
    let g = bind_some (past_gap after) (λ start. each start >>= or_next each) b k in
    let i = bind_some (each g.0) (or_next each) b g.2 in
    let j = bind_some (past_gap i.0.1) (λ next. each next >>= or_read i.0.0) b i.2 in
    let m = bind_some (each j.0) (or_read i.0.0) b j.2 in
    let f = law.sound g.0 i.0.0 i.0.1 i.1 in
    let n = law.sound j.0 m.0.0 m.0.1 m.1 in
    let s = gap_sound after g.0 g.1 in
    let t = gap_sound i.0.1 j.0 j.1 in
    let last : List ℕ = t.gap ++ n.text in
    let text : List ℕ = word ++ (s.gap ++ (f.text ++ last)) in
    let tail : i.0.1 ≡ last ++ m.0.1 = t.parts ∙ ap (λ l. t.gap ++ l) n.parts ∙ sym (append_assoc t.gap n.text m.0.1) in
    let middle : after ≡ (s.gap ++ (f.text ++ last)) ++ m.0.1 =
    s.parts
    ∙ ap (λ l. s.gap ++ l) (f.parts ∙ ap (λ l. f.text ++ l) tail ∙ sym (append_assoc f.text last m.0.1))
    ∙ sym (append_assoc s.gap (f.text ++ last) m.0.1) in
    let whole : bytes ≡ text ++ m.0.1 = e ∙ ap (λ l. word ++ l) middle ∙ sym (append_assoc word (s.gap ++ (f.text ++ last)) m.0.1) in
    found (AroundIs P) (keys.Or i.0.0 m.0.0) key bytes text m.0.1 rest whole
    (inr (inl (
      i.0.0,
      m.0.0,
      refl,
      record {
        front = word;
        back = s.gap ++ (f.text ++ last);
        parts = refl;
        first = h;
        second = record {
          front = s.gap;
          back = f.text ++ last;
          parts = refl;
          first = s.is;
          second = record {
            front = f.text;
            back = last;
            parts = refl;
            first = f.is;
            second = record { front = t.gap; back = n.text; parts = refl; first = t.is; second = n.is };
          };
        };
      },
    ))) m.2

-- ---- keys one after the other

-- what ends them
record Ends (rest : List ℕ) : Type 0 where
  next : next_start rest ≡ None
  word : Stops is_key_byte rest

blank_ends : (sp : List ℕ) → Spaces sp → Ends sp
blank_ends sp s = record { next = ap (λ (t : Bool). cond t None (past_gap sp)) (blank_again sp s); word = spaces_stop sp s }
  where
    spaces_stop : (l : List ℕ) → Spaces l → Stops is_key_byte l
    spaces_stop [] h = tt
    spaces_stop (x ∷ xs) h = gap_ends (x ∷ xs) [] (omega arith, h)

bare_not_blank : (gap text : List ℕ) → Spaces gap → Begun text → is_blank (gap ++ text) ≡ false
bare_not_blank [] text g b = ap is_blank b.is ∙ ap (λ (t : Bool). t && is_blank b.others) b.bare
bare_not_blank (x ∷ xs) text g b = ap (λ (t : Bool). t && is_blank (xs ++ text)) g.0 ∙ bare_not_blank xs text g.1 b

begun_behind : (text rest : List ℕ) → Begun text → Begun (text ++ rest)
begun_behind text rest b = record { first = b.first; others = b.others ++ rest; is = ap (λ l. l ++ rest) b.is; bare = b.bare }

next_again : (gap text rest : List ℕ) → Gap gap → Begun text → next_start (gap ++ (text ++ rest)) ≡ Some (text ++ rest)
next_again gap text rest g b =
    ap (λ (t : Bool). cond t None (past_gap (gap ++ (text ++ rest)))) (bare_not_blank gap (text ++ rest) g.1 (begun_behind text rest b))
    ∙ gap_again gap (text ++ rest) g (begun_stops text rest b)

others_stop : (P : Key → List ℕ → Type 0) (ks : List Key) (text rest : List ℕ) → Others Gap P ks text → Stops is_key_byte rest
    → Stops is_key_byte (text ++ rest)
others_stop P [] text rest q s = subst (λ l. Stops is_key_byte (l ++ rest)) (sym q) s
others_stop P (k ∷ ks) text rest q s =
    subst (λ l. Stops is_key_byte (l ++ rest)) (sym q.parts)
    (subst (Stops is_key_byte) (sym (append_assoc q.front q.back rest)) (gap_ends q.front (q.back ++ rest) q.first))

abbrev pub more_read : Key → List Key × List ℕ → Option (List Key × List ℕ)
more_read key more = Some (key ∷ more.0, more.1)

others_again : (each : Reader) (P : Key → List ℕ → Type 0) → Law each P → (ks : List Key) (text rest : List ℕ) → Others Gap P ks text → Ends rest
    → (n : ℕ) → length (text ++ rest) < n → others_at each n (text ++ rest) ≡ Some (ks, rest)
others_again each P law ks text rest q s zero lt = absurd (omega (arith, lt))
others_again each P law [] text rest q s (suc n) lt =
    ap (λ l. others_at each (suc n) (l ++ rest)) q
    ∙ ap (λ o. others_from each (others_at each n) o rest) s.next
others_again each P law (k ∷ ks) text rest q s (suc n) lt =
    let g = q.front in
    let t = q.second.front in
    let more = q.second.back in
    let whole : text ++ rest ≡ g ++ (t ++ (more ++ rest)) = three_parts Gap (P k) (Others Gap P ks) text rest q in
    let b = law.begun k t q.second.first in
    let size : length (more ++ rest) < n =
    omega (arith, lt, ap length whole, length-append g (t ++ (more ++ rest)), length-append t (more ++ rest), begun_some t b) in
    ap (others_at each (suc n)) whole
    ∙ ap (λ o. others_from each (others_at each n) o (g ++ (t ++ (more ++ rest)))) (next_again g t (more ++ rest) q.first b)
    ∙ ap (λ o. o >>= (λ read. others_at each n read.1 >>= more_read read.0))
    (law.again k t (more ++ rest) q.second.first (others_stop P ks more rest q.second.second s.word))
    ∙ ap (λ o. o >>= more_read k) (others_again each P law ks more rest q.second.second s n size)

abbrev pub keys_read : Key → List Key × List ℕ → Option (Key × List ℕ)
keys_read first others = Some (all_of first others.0, others.1)

abbrev pub keys_next : Reader → Key × List ℕ → Option (Key × List ℕ)
keys_next each first = others_at each (suc (length first.1)) first.1 >>= keys_read first.0

keys_again : (each : Reader) (P : Key → List ℕ → Type 0) → Law each P → (key : Key) (text rest : List ℕ) → KeysOf P key text → Ends rest
    → keys_at each (text ++ rest) ≡ Some (key, rest)
keys_again each P law key text rest (first, others, e, q) s =
    let whole : text ++ rest ≡ q.front ++ (q.back ++ rest) = ap (λ l. l ++ rest) q.parts ∙ append_assoc q.front q.back rest in
    ap (keys_at each) whole
    ∙ ap (λ o. o >>= keys_next each) (law.again first q.front (q.back ++ rest) q.first (others_stop P others q.back rest q.second s.word))
    ∙ ap (λ o. o >>= keys_read first) (others_again each P law others q.back rest q.second s (suc (length (q.back ++ rest))) (omega arith))
    ∙ ap (λ k. Some (k, rest)) e

-- what was read of further keys
record FoundOthers (P : Key → List ℕ → Type 0) (ks : List Key) (bytes rest : List ℕ) : Type 0 where
  text : List ℕ
  parts : bytes ≡ text ++ rest
  is : Others Gap P ks text

abbrev some_keys : List Key → List ℕ → Option (List Key × List ℕ)
some_keys ks rest = Some (ks, rest)

no_others : (P : Key → List ℕ → Type 0) (ks : List Key) (bytes rest : List ℕ) → some_keys [] bytes ≡ some_keys ks rest → FoundOthers P ks bytes rest
no_others P ks bytes rest h =
    let a : List Key × List ℕ = ([], bytes) in
    let b : List Key × List ℕ = (ks, rest) in
    let k : a ≡ b = inside a b h in
    subst (λ (p : List Key × List ℕ). FoundOthers P p.0 bytes p.1) k (record { text = []; parts = refl; is = refl })

pub next_sound : (bytes start : List ℕ) → next_start bytes ≡ Some start → past_gap bytes ≡ Some start
next_sound bytes start e =
    elim (either (is_blank bytes) None (past_gap bytes) (Some start) e) [
      | inl q ↦ absurd (let bad : None ≡ Some start = q.1 in cc)
      | inr q ↦ q.1
    ]

one_more : (each : Reader) (P : Key → List ℕ → Type 0) → Law each P → (others : List ℕ → Option (List Key × List ℕ))
    → ((l : List ℕ) (ks : List Key) (r : List ℕ) → others l ≡ Some (ks, r) → FoundOthers P ks l r)
    → (bytes start : List ℕ) (ks : List Key) (rest : List ℕ) → past_gap bytes ≡ Some start
    → others_from each others (Some start) bytes ≡ Some (ks, rest) → FoundOthers P ks bytes rest
one_more each P law others sound bytes start ks rest e h =
    let b : List Key × List ℕ = (ks, rest) in
    let i = bind_some (each start) (λ read. others read.1 >>= more_read read.0) b h in
    let j = bind_some (others i.0.1) (more_read i.0.0) b i.2 in
    let f = law.sound start i.0.0 i.0.1 i.1 in
    let m = sound i.0.1 j.0.0 j.0.1 j.1 in
    let g = gap_sound bytes start e in
    let a : List Key × List ℕ = (i.0.0 ∷ j.0.0, j.0.1) in
    let whole : bytes ≡ (g.gap ++ (f.text ++ m.text)) ++ j.0.1 =
    g.parts
    ∙ ap (λ l. g.gap ++ l) (f.parts ∙ ap (λ l. f.text ++ l) m.parts ∙ sym (append_assoc f.text m.text j.0.1))
    ∙ sym (append_assoc g.gap (f.text ++ m.text) j.0.1) in
    subst (λ (p : List Key × List ℕ). FoundOthers P p.0 bytes p.1) (inside a b j.2) (record {
      text = g.gap ++ (f.text ++ m.text);
      parts = whole;
      is = record {
        front = g.gap;
        back = f.text ++ m.text;
        parts = refl;
        first = g.is;
        second = record { front = f.text; back = m.text; parts = refl; first = f.is; second = m.is };
      };
    })

others_case : (each : Reader) (P : Key → List ℕ → Type 0) → Law each P → (others : List ℕ → Option (List Key × List ℕ))
    → ((l : List ℕ) (ks : List Key) (r : List ℕ) → others l ≡ Some (ks, r) → FoundOthers P ks l r)
    → (o : Option (List ℕ)) (bytes : List ℕ) (ks : List Key) (rest : List ℕ) → next_start bytes ≡ o
    → others_from each others o bytes ≡ Some (ks, rest) → FoundOthers P ks bytes rest
others_case each P law others sound None bytes ks rest e h = no_others P ks bytes rest h
others_case each P law others sound (Some start) bytes ks rest e h =
    one_more each P law others sound bytes start ks rest (next_sound bytes start e) h

others_sound : (each : Reader) (P : Key → List ℕ → Type 0) → Law each P → (n : ℕ) (bytes : List ℕ) (ks : List Key) (rest : List ℕ)
    → others_at each n bytes ≡ Some (ks, rest) → FoundOthers P ks bytes rest
others_sound each P law zero bytes ks rest h = absurd cc
others_sound each P law (suc n) bytes ks rest h =
    others_case each P law (others_at each n) (λ l k r e. others_sound each P law n l k r e) (next_start bytes) bytes ks rest refl h

keys_sound : (each : Reader) (P : Key → List ℕ → Type 0) → Law each P → (bytes : List ℕ) (key : Key) (rest : List ℕ)
    → keys_at each bytes ≡ Some (key, rest) → FoundKey (KeysOf P) key bytes rest
keys_sound each P law bytes key rest h =
    let b : Key × List ℕ = (key, rest) in
    let i = bind_some (each bytes) (keys_next each) b h in
    let j = bind_some (others_at each (suc (length i.0.1)) i.0.1) (keys_read i.0.0) b i.2 in
    let f = law.sound bytes i.0.0 i.0.1 i.1 in
    let m = others_sound each P law (suc (length i.0.1)) i.0.1 j.0.0 j.0.1 j.1 in
    let whole : bytes ≡ (f.text ++ m.text) ++ j.0.1 = f.parts ∙ ap (λ l. f.text ++ l) m.parts ∙ sym (append_assoc f.text m.text j.0.1) in
    found (KeysOf P) (all_of i.0.0 j.0.0) key bytes (f.text ++ m.text) j.0.1 rest whole
    (i.0.0, j.0.0, refl, record { front = f.text; back = m.text; parts = refl; first = f.is; second = m.is }) j.2

-- ---- parentheses

abbrev group_read : Key × List ℕ → Option (Key × List ℕ)
group_read read = past_byte 41 read.1 >>= (λ rest. Some (read.0, rest))

group_again : (each : Reader) (P : Key → List ℕ → Type 0) → Law each P → (key : Key) (text rest : List ℕ) → Parenthesized (KeysOf P key) text
    → around_at each (text ++ rest) ≡ Some (key, rest)
group_again each P law key text rest q =
    let k = paren_text (KeysOf P key) text q in
    let inner : (k.0 ++ 41 ∷ []) ++ rest ≡ k.0 ++ 41 ∷ rest = append_assoc k.0 (41 ∷ []) rest in
    let closes : Ends (41 ∷ rest) = record { next = refl; word = refl } in
    ap (λ l. around_at each (l ++ rest)) k.1
    ∙ ap (group_at each) inner
    ∙ ap (λ o. o >>= group_read) (keys_again each P law key k.0 (41 ∷ rest) k.2 closes)

group_sound : (each : Reader) (P : Key → List ℕ → Type 0) → Law each P → (bytes start : List ℕ) (key : Key) (rest : List ℕ) → bytes ≡ 40 ∷ start
    → group_at each start ≡ Some (key, rest) → FoundKey (AroundIs P) key bytes rest
group_sound each P law bytes start key rest e h =
    let b : Key × List ℕ = (key, rest) in
    let i = bind_some (keys_at each start) group_read b h in
    let j = bind_some (past_byte 41 i.0.1) (λ rest. let c : Key × List ℕ = (i.0.0, rest) in Some c) b i.2 in
    let f = keys_sound each P law start i.0.0 i.0.1 i.1 in
    let text : List ℕ = 40 ∷ (f.text ++ 41 ∷ []) in
    let whole : bytes ≡ text ++ j.0 =
    e ∙ ap (λ l. 40 ∷ l) (f.parts ∙ ap (λ l. f.text ++ l) (byte_sound 41 i.0.1 j.0 j.1) ∙ sym (append_assoc f.text (41 ∷ []) j.0)) in
    found (AroundIs P) i.0.0 key bytes text j.0 rest whole (inr (inr (text_paren (KeysOf P i.0.0) f.text f.is))) j.2

-- ---- one level more

abbrev EitherIs : (Key → List ℕ → Type 0) → Key → List ℕ → Type 0
EitherIs P key text = SingleIs key text ⊎ AroundIs P key text

around_again : (each : Reader) (P : Key → List ℕ → Type 0) → Law each P → (key : Key) (text rest : List ℕ) → EitherIs P key text
    → Stops is_key_byte rest → around_at each (text ++ rest) ≡ Some (key, rest)
around_again each P law key text rest (inl h) s = single_again each key text rest h s
around_again each P law key text rest (inr (inl (inner, e, q))) s = not_again each P law inner text rest q s ∙ ap (λ k. Some (k, rest)) e
around_again each P law key text rest (inr (inr (inl (one, other, e, q)))) s =
    or_again each P law one other text rest q s ∙ ap (λ k. Some (k, rest)) e
around_again each P law key text rest (inr (inr (inr q))) s = group_again each P law key text rest q

around_begun : (P : Key → List ℕ → Type 0) (key : Key) (text : List ℕ) → EitherIs P key text → Begun text
around_begun P key text (inl h) = begun_single key text h
around_begun P key text (inr (inl (inner, e, q))) = begun_word text q.front q.back q.parts (key_front words.Not q.front q.first)
around_begun P key text (inr (inr (inl (one, other, e, q)))) = begun_word text q.front q.back q.parts (key_front words.Or q.front q.first)
around_begun P key text (inr (inr (inr q))) = let k = paren_text (KeysOf P key) text q in record {
  first = 40;
  others = k.0 ++ 41 ∷ [];
  is = k.1;
  bare = refl;
}

single_is : (P : Key → List ℕ → Type 0) (key : Key) (bytes rest : List ℕ) → FoundKey SingleIs key bytes rest → FoundKey (EitherIs P) key bytes rest
single_is P key bytes rest f = record { text = f.text; parts = f.parts; is = inl f.is }

around_is : (P : Key → List ℕ → Type 0) (key : Key) (bytes rest : List ℕ) → FoundKey (AroundIs P) key bytes rest
    → FoundKey (EitherIs P) key bytes rest
around_is P key bytes rest f = record { text = f.text; parts = f.parts; is = inr f.is }

worded_sound : (each : Reader) (P : Key → List ℕ → Type 0) → Law each P → (w : KeyWord) (bytes text after : List ℕ) (key : Key) (rest : List ℕ)
    → bytes ≡ text ++ after → Keyword (spelling w) text
    → worded_at each (Some w) (text, after) ≡ Some (key, rest) → FoundKey (EitherIs P) key bytes rest
worded_sound each P law words.Not bytes text after key rest e h k =
    around_is P key bytes rest (not_sound each P law bytes text after key rest e h k)
worded_sound each P law words.Or bytes text after key rest e h k = around_is P key bytes rest (or_sound each P law bytes text after key rest e h k)
worded_sound each P law words.All bytes text after key rest e h k =
    single_is P key bytes rest (single_sound words.All key bytes text after rest e h k)
worded_sound each P law w bytes text after key rest e h k = single_is P key bytes rest (single_sound w key bytes text after rest e h k)

word_case : (each : Reader) (P : Key → List ℕ → Type 0) → Law each P → (o : Option KeyWord) (bytes text after : List ℕ) (key : Key) (rest : List ℕ)
    → bytes ≡ text ++ after → key_word_of text ≡ o
    → worded_at each o (text, after) ≡ Some (key, rest) → FoundKey (EitherIs P) key bytes rest
word_case each P law None bytes text after key rest e h k = single_is P key bytes rest (set_found key bytes text after rest e k)
word_case each P law (Some w) bytes text after key rest e h k = worded_sound each P law w bytes text after key rest e (word_sound w text h) k

around_case : (each : Reader) (P : Key → List ℕ → Type 0) → Law each P → (o : Option (List ℕ)) (bytes : List ℕ) (key : Key) (rest : List ℕ)
    → past_byte 40 bytes ≡ o
    → either_at each o bytes ≡ Some (key, rest) → FoundKey (EitherIs P) key bytes rest
around_case each P law (Some start) bytes key rest e k =
    around_is P key bytes rest (group_sound each P law bytes start key rest (byte_sound 40 bytes start e) k)
around_case each P law None bytes key rest e k =
    let c = key_word_at bytes in
    word_case each P law (key_word_of c.0) bytes c.0 c.1 key rest (key_word_parts bytes) refl k

next_law : (each : Reader) (P : Key → List ℕ → Type 0) → Law each P → Law (around_at each) (EitherIs P)
next_law each P law = record {
  again = around_again each P law;
  sound = λ bytes key rest h. around_case each P law (past_byte 40 bytes) bytes key rest refl h;
  begun = around_begun P;
}

-- ---- all levels

abbrev NoneIs : Key → List ℕ → Type 0
NoneIs key text = ⊥

none_law : Law (key_at zero) NoneIs
unfolding key_at
none_law = record {
  again = λ key text rest h s. absurd h;
  sound = λ bytes key rest e. absurd (let b : Key × List ℕ = (key, rest) in let bad : None ≡ Some b = e in cc);
  begun = λ key text h. absurd h;
}

none_around : (key : Key) (text : List ℕ) → EitherIs NoneIs key text → SingleIs key text
none_around key text (inl h) = h
none_around key text (inr (inl (inner, e, q))) = absurd q.second.second
none_around key text (inr (inr (inl (one, other, e, q)))) = absurd q.second.second.first
none_around key text (inr (inr (inr q))) = absurd (paren_text (KeysOf NoneIs key) text q).2.3.first

first_law : Law (key_at 1) SingleIs
unfolding key_at
first_law =
    let law = next_law (key_at zero) NoneIs none_law in
    record {
      again = λ key text rest h s. law.again key text rest (inl h) s;
      sound = λ bytes key rest e. let f = law.sound bytes key rest e in record { text = f.text; parts = f.parts; is = none_around key f.text f.is };
      begun = begun_single;
    }

key_law : (n : ℕ) → Law (key_at (suc n)) (KeyIs n)
unfolding key_at KeyIs
key_law zero = first_law
key_law (suc n) = next_law (key_at (suc n)) (KeyIs n) (key_law n)

-- what follows a key is shorter than what begins with it
pub key_rest_shorter : (n : ℕ) (bytes : List ℕ) (key : Key) (rest : List ℕ) → key_at n bytes ≡ Some (key, rest) → length rest < length bytes
unfolding key_at
key_rest_shorter zero bytes key rest e = absurd (let b : Key × List ℕ = (key, rest) in let bad : None ≡ Some b = e in cc)
key_rest_shorter (suc n) bytes key rest e =
    let law = key_law n in
    let f = law.sound bytes key rest e in
    omega (arith, ap length f.parts, length-append f.text rest, begun_some f.text (law.begun key f.text f.is))

-- ---- keys and nothing more

abbrev pub whole_read : Key × List ℕ → Option Key
whole_read read = cond (is_blank read.1) (Some read.0) None

pub keys_in_again : (key : Key) (text sp : List ℕ) → KeysOf (KeyIs 32) key text → Spaces sp → keys_in (text ++ sp) ≡ Some key
unfolding keys_in
keys_in_again key text sp q s =
    ap (λ o. o >>= whole_read) (keys_again (key_at 33) (KeyIs 32) (key_law 32) key text sp q (blank_ends sp s))
    ∙ ap (λ (t : Bool). cond t (Some key) None) (blank_again sp s)

pub keys_in_sound : (key : Key) (bytes : List ℕ) → keys_in bytes ≡ Some key → Joined (KeysOf (KeyIs 32) key) Spaces bytes
unfolding keys_in
keys_in_sound key bytes e =
    let i = bind_some (keys_at (key_at 33) bytes) whole_read key e in
    let f = keys_sound (key_at 33) (KeyIs 32) (key_law 32) bytes i.0.0 i.0.1 i.1 in
    let k = guard_some (is_blank i.0.1) i.0.0 key i.2 in
    record {
      front = f.text;
      back = i.0.1;
      parts = f.parts;
      first = subst (λ x. KeysOf (KeyIs 32) x f.text) k.1 f.is;
      second = blank_sound i.0.1 k.0;
    }

pub keys_begun : (key : Key) (text rest : List ℕ) → KeysOf (KeyIs 32) key text → Stops is_space (text ++ rest)
keys_begun key text rest (first, others, e, q) =
    let law = key_law 32 in
    subst (λ l. Stops is_space (l ++ rest)) (sym q.parts)
    (subst (Stops is_space) (sym (append_assoc q.front q.back rest)) (begun_stops q.front (q.back ++ rest) (law.begun first q.front q.first)))

-- keys begin neither with CHARSET nor with RETURN

unopened_word : (bytes : List ℕ) (w : KeyWord) (o : Option (List ℕ)) → past_byte 40 bytes ≡ o
    → key_word_of (key_word_at bytes).0 ≡ Some w → o ≡ None
unopened_word bytes w None e h = refl
unopened_word bytes w (Some start) e h =
    let opened : bytes ≡ 40 ∷ start = byte_sound 40 bytes start e in
    let none : key_word_of (key_word_at bytes).0 ≡ None = ap (λ l. key_word_of (key_word_at l).0) opened in
    absurd (let bad : None ≡ Some w = sym none ∙ h in cc)

-- no key begins with this word
NoKey : KeyWord → Type 0
NoKey w = (each : Reader) (cut : List ℕ × List ℕ) (key : Key) (rest : List ℕ) → worded_at each (Some w) cut ≡ Some (key, rest) → ⊥

first_never : (w : KeyWord) → NoKey w → (n : ℕ) (bytes : List ℕ) (key : Key) (rest : List ℕ) → key_at (suc n) bytes ≡ Some (key, rest)
    → key_word_of (key_word_at bytes).0 ≡ Some w → ⊥
unfolding key_at NoKey
first_never w none n bytes key rest e h =
    let each = key_at n in
    let unopened : past_byte 40 bytes ≡ None = unopened_word bytes w (past_byte 40 bytes) refl h in
    let worded : worded_at each (Some w) (key_word_at bytes) ≡ Some (key, rest) =
    ap (λ o. worded_at each o (key_word_at bytes)) (sym h) ∙ ap (λ o. either_at each o bytes) (sym unopened) ∙ e in
    none each (key_word_at bytes) key rest worded

keys_never : (w : KeyWord) → NoKey w → (key : Key) (bytes : List ℕ) → keys_in bytes ≡ Some key → key_word_of (key_word_at bytes).0 ≡ Some w → ⊥
unfolding keys_in
keys_never w none key bytes e h =
    let i = bind_some (keys_at (key_at 33) bytes) whole_read key e in
    let j = bind_some (key_at 33 bytes) (keys_next (key_at 33)) i.0 i.1 in
    first_never w none 32 bytes j.0.0 j.0.1 j.1 h

pub keys_no_charset : (key : Key) (bytes : List ℕ) → keys_in bytes ≡ Some key → key_word_of (key_word_at bytes).0 ≡ Some words.Charset → ⊥
unfolding NoKey
keys_no_charset = keys_never words.Charset (λ each cut key rest e. no_charset_key key cut.1 rest e)

pub keys_no_return : (key : Key) (bytes : List ℕ) → keys_in bytes ≡ Some key → key_word_of (key_word_at bytes).0 ≡ Some words.Return → ⊥
unfolding NoKey
keys_no_return = keys_never words.Return (λ each cut key rest e. no_return_key key cut.1 rest e)
