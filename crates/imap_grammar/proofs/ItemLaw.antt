-- Items of FETCH and STATUS: what is spelled is read, and what is read is spelled.
use Rattle.std.proofs.Common.{◌≡◌, ℕ, suc, ◌<◌, ◌≤◌, Bool, true, false, cond, List, [], ◌∷◌, ◌++◌, length, take, drop, refl, ap, sym, subst, ◌∙◌, arith, append_assoc, length-append, append-nil, inl, inr}
use Rattle.std.specs.Prelude.{Option, Some, None, codes, ◌==◌, not, map}
use Rattle.std.specs.Char.{to_ascii_lowercase}
use Rattle.std.specs.Str.{bytes_eq, str_eq_ignore_ascii_case as is_same}
use Rattle.std.proofs.lemmas.Bool.Decides.{Decides-eqb}
use Rattle.std.proofs.lemmas.List.{take-append-le}
use Rattle.envelope.proofs.Case.{decides_false}
use Rattle.envelope.proofs.Sound.{bind_some, guard_some, either, byte_sound}
use Rattle.envelope.specs.Bytes.{is_not_space}
use Rattle.envelope.specs.Grammar.{Keyword, Many, Some1, Exactly, ◌⨾◌}
use Rattle.envelope.specs.Reading.{◌>>=◌, past_byte, past_keyword}
use Rattle.imap_grammar.specs.Bytes.{is_digit}
use Rattle.imap_grammar.specs.Cuts.{cut_at}
use Rattle.imap_grammar.specs.Numbers.{number_up_to}
use Rattle.imap_grammar.specs.Items.{section_of, fields_or, part_of, greatest_span, span_between, span_of, partial_of, body_of, body_or_peek, fetch_item_of, status_item_of}
use Rattle.imap_grammar.specs.Grammar.{PartIs, rfc822_word, section_word, Number63, PartialIs, ItemIs, status_word, StatusItemIs}
use Rattle.imap_grammar.specs.declared.items.Section.{Section}
use Rattle.imap_grammar.specs.declared.items.Section.TheVariants.{Whole, Header, Text}
use Rattle.imap_grammar.specs.declared.items.BodyPart.{BodyPart}
use Rattle.imap_grammar.specs.declared.items.BodyPart.TheVariants as parts
use Rattle.imap_grammar.specs.declared.items.Span.{Span}
use Rattle.imap_grammar.specs.declared.items.FetchItem.{FetchItem}
use Rattle.imap_grammar.specs.declared.items.FetchItem.TheVariants as fetch
use Rattle.imap_grammar.specs.declared.items.StatusItem.{StatusItem}
use Rattle.imap_grammar.specs.declared.items.StatusItem.TheVariants as status
use Rattle.imap_grammar.proofs.Cuts.{is_other, cut_sound, cut_again}
use Rattle.imap_grammar.proofs.Keywords.{word_length, word_clean, past_again, FoundKeyword, past_sound, same_sound, lowered, map_take}
use Rattle.imap_grammar.proofs.SetLaw.{number_again, number_sound}
use Rattle.imap_grammar.proofs.Tokens.{excludes, many_map, many_joined}
use Rattle.imap_grammar.proofs.ItemWords.{ItemWord, Outside, open_behind}
use Rattle.imap_grammar.proofs.Outside.{outside_plain, outside_within, both_outside, both_behind, opened_word}
use Rattle.imap_grammar.proofs.Fields.{fields_again, fields_sound, fields_clean, past_short, word_differs}

empty : (xs : List ℕ) → (length xs == 0) ≡ true → xs ≡ []
empty [] e = refl
empty (x ∷ xs) e = absurd (let same : suc (length xs) ≡ 0 = (Decides-eqb (suc (length xs)) 0).0 e in omega (arith, same))

long : (xs : List ℕ) → 0 < length xs → (length xs == 0) ≡ false
long xs h = decides_false (length xs == 0) (Decides-eqb (length xs) 0) (λ e. omega (arith, h, e))

-- ---- sections

section_lowered : (n : Bool) (low : List ℕ) → Option Section
section_lowered n low =
    cond n (Some Whole) (cond (bytes_eq low (map to_ascii_lowercase (codes "HEADER"))) (Some Header) (cond (bytes_eq low (map to_ascii_lowercase (codes "TEXT"))) (Some Text) None))

section_again : (s : Section) (text : List ℕ) → Keyword (section_word s) text → section_of text ≡ Some s
unfolding section_lowered
section_again Whole text h =
    let n = word_length [] text h in
    ap (λ (t : Bool). section_lowered t (map to_ascii_lowercase text)) (ap (λ (k : ℕ). k == 0) n)
section_again Header text h =
    let n = word_length (codes "HEADER") text h in
    ap (λ (t : Bool). section_lowered t (map to_ascii_lowercase text)) (long text (omega (arith, n))) ∙ ap (section_lowered false) h
section_again Text text h =
    let n = word_length (codes "TEXT") text h in
    ap (λ (t : Bool). section_lowered t (map to_ascii_lowercase text)) (long text (omega (arith, n))) ∙ ap (section_lowered false) h

section_sound : (s : Section) (text : List ℕ) → section_of text ≡ Some s → Keyword (section_word s) text
section_sound s text e =
    let last : Option Section = cond (is_same text (codes "TEXT")) (Some Text) None in
    let next : Option Section = cond (is_same text (codes "HEADER")) (Some Header) last in
    elim (either (length text == 0) (Some Whole) next (Some s) e) [
      | inl q ↦ let is : Whole ≡ s = cc in subst (λ r. Keyword (section_word r) text) is (ap (map to_ascii_lowercase) (empty text q.0))
      | inr q ↦ elim (either (is_same text (codes "HEADER")) (Some Header) last (Some s) q.1) [
        | inl r ↦ let is : Header ≡ s = cc in subst (λ k. Keyword (section_word k) text) is (same_sound (codes "HEADER") text r.0)
        | inr r ↦
            let k = guard_some (is_same text (codes "TEXT")) Text s r.1 in
            subst (λ j. Keyword (section_word j) text) k.1 (same_sound (codes "TEXT") text k.0)
      ]
    ]

section_clean : (c : ℕ) → to_ascii_lowercase c ≡ c → Many (is_other c) (map to_ascii_lowercase (codes "HEADER")) → Many (is_other c) (map to_ascii_lowercase (codes "TEXT"))
    → (s : Section) (text : List ℕ) → Keyword (section_word s) text → Many (is_other c) text
section_clean c e a b Whole text h = word_clean c e text [] h tt
section_clean c e a b Header text h = word_clean c e text _ h a
section_clean c e a b Text text h = word_clean c e text _ h b

-- ---- parts

section_short : (section : Section) (text : List ℕ) → Keyword (section_word section) text → length text ≤ 6
section_short Whole text h = let n = word_length [] text h in omega (arith, n)
section_short Header text h = let n = word_length (codes "HEADER") text h in omega (arith, n)
section_short Text text h = let n = word_length (codes "TEXT") text h in omega (arith, n)

part_again : (part : BodyPart) (text : List ℕ) → PartIs part text → part_of text ≡ Some part
part_again (parts.Section section) text h =
    let short = section_short section text h in
    ap (λ o. fields_or o (past_keyword (codes "HEADER.FIELDS.NOT (") text) text) (past_short (codes "HEADER.FIELDS (") text (omega (arith, short)))
    ∙ ap (λ o. fields_or None o text) (past_short (codes "HEADER.FIELDS.NOT (") text (omega (arith, short)))
    ∙ ap (λ o. o >>= (λ s. Some (parts.Section s))) (section_again section text h)
part_again (parts.Fields false names) text q =
    ap part_of q.parts
    ∙ ap (λ o. fields_or o (past_keyword (codes "HEADER.FIELDS.NOT (") (q.front ++ q.back)) (q.front ++ q.back)) (past_again (codes "HEADER.FIELDS (") q.front q.back q.first)
    ∙ fields_again false names q.back q.second
part_again (parts.Fields true names) text q =
    let differs : is_same (take 15 (q.front ++ q.back)) (codes "HEADER.FIELDS (") ≡ false = word_differs (codes "HEADER.FIELDS (") (codes "HEADER.FIELDS.NOT (") q.front q.back q.first (omega arith) refl in
    ap part_of q.parts
    ∙ ap (λ (t : Bool). fields_or (cond t (Some (drop 15 (q.front ++ q.back))) None) (past_keyword (codes "HEADER.FIELDS.NOT (") (q.front ++ q.back)) (q.front ++ q.back)) differs
    ∙ ap (λ o. fields_or None o (q.front ++ q.back)) (past_again (codes "HEADER.FIELDS.NOT (") q.front q.back q.first)
    ∙ fields_again true names q.back q.second

some_section : Section → Option BodyPart
some_section s = Some (parts.Section s)

part_case : (part : BodyPart) (text : List ℕ) (o p : Option (List ℕ)) → past_keyword (codes "HEADER.FIELDS (") text ≡ o → past_keyword (codes "HEADER.FIELDS.NOT (") text ≡ p
    → fields_or o p text ≡ Some part → PartIs part text
unfolding some_section
part_case part text (Some rest) p e f h =
    let k = fields_sound false rest part h in
    let w = past_sound (codes "HEADER.FIELDS (") text rest e in
    subst (λ x. PartIs x text) (sym k.1) (record { front = w.text; back = rest; parts = w.parts; first = w.is; second = k.2 })
part_case part text None (Some rest) e f h =
    let k = fields_sound true rest part h in
    let w = past_sound (codes "HEADER.FIELDS.NOT (") text rest f in
    subst (λ x. PartIs x text) (sym k.1) (record { front = w.text; back = rest; parts = w.parts; first = w.is; second = k.2 })
part_case part text None None e f h =
    let k = bind_some (section_of text) some_section part h in
    let is : parts.Section k.0 ≡ part = inside k.2 in
    subst (λ x. PartIs x text) is (section_sound k.0 text k.1)
  where
    inside : {y z : BodyPart} → Some y ≡ Some z → y ≡ z
    inside g = cc

part_sound : (part : BodyPart) (text : List ℕ) → part_of text ≡ Some part → PartIs part text
part_sound part text e = part_case part text (past_keyword (codes "HEADER.FIELDS (") text) (past_keyword (codes "HEADER.FIELDS.NOT (") text) refl refl e

-- no bracket closes within
part_clean : (part : BodyPart) (text : List ℕ) → PartIs part text → Many (is_other 93) text
part_clean (parts.Section section) text h = section_clean 93 refl (refl, (refl, (refl, (refl, (refl, (refl, tt)))))) (refl, (refl, (refl, (refl, tt)))) section text h
part_clean (parts.Fields false names) text q =
    subst (Many (is_other 93)) (sym q.parts) (many_joined (is_other 93) q.front q.back (word_clean 93 refl q.front _ q.first (refl, (refl, (refl, (refl, (refl, (refl, (refl, (refl, (refl, (refl, (refl, (refl, (refl, (refl, (refl, tt)))))))))))))))) (fields_clean names q.back q.second))
part_clean (parts.Fields true names) text q =
    subst (Many (is_other 93)) (sym q.parts) (many_joined (is_other 93) q.front q.back (word_clean 93 refl q.front _ q.first (refl, (refl, (refl, (refl, (refl, (refl, (refl, (refl, (refl, (refl, (refl, (refl, (refl, (refl, (refl, (refl, (refl, (refl, (refl, tt)))))))))))))))))))) (fields_clean names q.back q.second))

-- ---- spans

digits_clean : (c : ℕ) → is_digit c ≡ false → (n : ℕ) (text : List ℕ) → Number63 n text → Many (is_other c) text
digits_clean c e n text h = many_map is_digit (is_other c) (λ b k. excludes is_digit c e b k) text h.0.0.1

-- a span's text, in its parts
record SpanText (span : Span) (text : List ℕ) : Type 0 where
  origin : List ℕ
  count : List ℕ
  whole : text ≡ 60 ∷ (origin ++ 46 ∷ (count ++ 62 ∷ []))
  origin_is : Number63 span.origin origin
  count_is : Number63 span.count count
  some : 1 ≤ span.count

span_text : (span : Span) (text : List ℕ) → PartialIs (Some span) text → SpanText span text
span_text span text q =
    let o = q.second in
    let d = o.second in
    let n = d.second in
    record {
      origin = o.front;
      count = n.front;
      whole = q.parts ∙ ap (λ l. l ++ q.back) q.first
          ∙ ap (λ l. 60 ∷ l) (o.parts ∙ ap (λ l. o.front ++ l) (d.parts ∙ ap (λ l. l ++ d.back) d.first ∙ ap (λ l. 46 ∷ l) (n.parts ∙ ap (λ l. n.front ++ l) n.second)));
      origin_is = o.first;
      count_is = n.first.0;
      some = n.first.1;
    }

span_is : (span : Span) (text : List ℕ) → SpanText span text → PartialIs (Some span) text
span_is span text s =
    subst (PartialIs (Some span)) (sym s.whole) (record {
      front = 60 ∷ [];
      back = s.origin ++ 46 ∷ (s.count ++ 62 ∷ []);
      parts = refl;
      first = refl;
      second = record {
        front = s.origin;
        back = 46 ∷ (s.count ++ 62 ∷ []);
        parts = refl;
        first = s.origin_is;
        second = record {
          front = 46 ∷ [];
          back = s.count ++ 62 ∷ [];
          parts = refl;
          first = refl;
          second = record { front = s.count; back = 62 ∷ []; parts = refl; first = (s.count_is, s.some); second = refl };
        };
      };
    })

span_made : ℕ → ℕ → Option Span
span_made o n = cond (n == 0) None (let s : Span = record { origin = o; count = n } in Some s)

span_ends : List ℕ × List ℕ → Option Span
span_ends cut = cut_at 46 cut.0 >>= (λ numbers. cond (length cut.1 == 0) (span_between numbers) None)

span_again : (span : Span) (text : List ℕ) → SpanText span text → span_of text ≡ Some span
unfolding span_made span_ends
span_again span text s =
    let inner : List ℕ = s.origin ++ 46 ∷ s.count in
    let assoc : s.origin ++ 46 ∷ (s.count ++ 62 ∷ []) ≡ inner ++ 62 ∷ [] = sym (append_assoc s.origin (46 ∷ s.count) (62 ∷ [])) in
    let clean : Many (is_other 62) inner =
    many_joined (is_other 62) s.origin (46 ∷ s.count) (digits_clean 62 refl span.origin s.origin s.origin_is) (refl, digits_clean 62 refl span.count s.count s.count_is) in
    let none : List ℕ = [] in
    let one : List ℕ × List ℕ = (inner, none) in
    let two : List ℕ × List ℕ = (s.origin, s.count) in
    let first : cut_at 62 (s.origin ++ 46 ∷ (s.count ++ 62 ∷ [])) ≡ Some one = ap (cut_at 62) assoc ∙ cut_again 62 inner [] clean in
    let second : cut_at 46 inner ≡ Some two = cut_again 46 s.origin s.count (digits_clean 46 refl span.origin s.origin s.origin_is) in
    let some : (span.count == 0) ≡ false = decides_false (span.count == 0) (Decides-eqb span.count 0) (λ e. omega (arith, s.some, e)) in
    ap span_of s.whole
    ∙ ap (λ o. o >>= span_ends) first
    ∙ ap (λ o. o >>= (λ numbers. span_between numbers)) second
    ∙ ap (λ o. o >>= (λ k. number_up_to greatest_span s.count >>= span_made k)) (number_again greatest_span span.origin s.origin s.origin_is.0 s.origin_is.1)
    ∙ ap (λ o. o >>= span_made span.origin) (number_again greatest_span span.count s.count s.count_is.0 s.count_is.1)
    ∙ ap (λ (t : Bool). cond t None (Some span)) some

count_some : (o n : ℕ) (span : Span) → span_made o n ≡ Some span → (1 ≤ n) × ((span.origin ≡ o) × (span.count ≡ n))
unfolding span_made
count_some o n span e =
    let made : Span = record { origin = o; count = n } in
    elim (either (n == 0) None (Some made) (Some span) e) [
      | inl q ↦ absurd (let bad : None ≡ Some span = q.1 in cc)
      | inr q ↦
          let same : made ≡ span = cc in
          let ne : (n ≡ 0) → ⊥ = λ k. let yes : (n == 0) ≡ true = (Decides-eqb n 0).1 k in cc in
          (omega (arith, ne), (ap (λ (s : Span). s.origin) (sym same), ap (λ (s : Span). s.count) (sym same)))
    ]

span_found : (span : Span) (text inner : List ℕ) (cut numbers : List ℕ × List ℕ) (o n : ℕ) → past_byte 60 text ≡ Some inner → cut_at 62 inner ≡ Some cut
    → cut_at 46 cut.0 ≡ Some numbers → (length cut.1 == 0) ≡ true → number_up_to greatest_span numbers.0 ≡ Some o → number_up_to greatest_span numbers.1 ≡ Some n
    → span_made o n ≡ Some span → SpanText span text
span_found span text inner cut numbers o n e f g z a b h =
    let k = count_some o n span h in
    let p = cut_sound 62 inner cut.0 cut.1 f in
    let q = cut_sound 46 cut.0 numbers.0 numbers.1 g in
    record {
      origin = numbers.0;
      count = numbers.1;
      whole = byte_sound 60 text inner e
          ∙ ap (λ l. 60 ∷ l) (p.whole ∙ ap (λ l. cut.0 ++ 62 ∷ l) (empty cut.1 z) ∙ ap (λ l. l ++ 62 ∷ []) q.whole ∙ append_assoc numbers.0 (46 ∷ numbers.1) (62 ∷ []));
      origin_is = subst (λ m. Number63 m numbers.0) (sym k.1.0) (number_sound greatest_span o numbers.0 a);
      count_is = subst (λ m. Number63 m numbers.1) (sym k.1.1) (number_sound greatest_span n numbers.1 b);
      some = subst (λ m. 1 ≤ m) (sym k.1.1) k.0;
    }

span_sound : (span : Span) (text : List ℕ) → span_of text ≡ Some span → SpanText span text
unfolding span_made span_ends
span_sound span text e =
    let a = bind_some (past_byte 60 text) (λ inner. cut_at 62 inner >>= span_ends) span e in
    let b = bind_some (cut_at 62 a.0) span_ends span a.2 in
    let c = bind_some (cut_at 46 b.0.0) (λ numbers. cond (length b.0.1 == 0) (span_between numbers) None) span b.2 in
    let t = elim (either (length b.0.1 == 0) (span_between c.0) None (Some span) c.2) as (λ _. ((length b.0.1 == 0) ≡ true) × (span_between c.0 ≡ Some span)) [
      | inl q ↦ q
      | inr q ↦ absurd (let bad : None ≡ Some span = q.1 in cc)
    ] in
    let d = bind_some (number_up_to greatest_span c.0.0) (λ o. number_up_to greatest_span c.0.1 >>= span_made o) span t.1 in
    let f = bind_some (number_up_to greatest_span c.0.1) (span_made d.0) span d.2 in
    span_found span text a.0 b.0 c.0 d.0 f.0 a.1 b.1 c.1 t.0 d.1 f.1 f.2

some_span : Span → Option (Option Span)
some_span s = Some (Some s)

partial_again : (o : Option Span) (text : List ℕ) → PartialIs o text → partial_of text ≡ Some o
unfolding some_span
partial_again None text h = ap partial_of h
partial_again (Some span) text h =
    let s = span_text span text h in
    let some : (length text == 0) ≡ false = long text (omega (arith, ap length s.whole)) in
    ap (λ (t : Bool). cond t (Some None) (span_of text >>= some_span)) some ∙ ap (λ o. o >>= some_span) (span_again span text s)

partial_sound : (o : Option Span) (text : List ℕ) → partial_of text ≡ Some o → PartialIs o text
unfolding some_span
partial_sound o text e =
    elim (either (length text == 0) (Some None) (span_of text >>= some_span) (Some o) e) [
      | inl q ↦ let is : None ≡ o = cc in subst (λ p. PartialIs p text) is (empty text q.0)
      | inr q ↦
          let k = bind_some (span_of text) some_span o q.1 in
          let is : Some k.0 ≡ o = cc in
          subst (λ p. PartialIs p text) is (span_is k.0 text (span_sound k.0 text k.1))
    ]

partial_clean : (c : ℕ) → is_digit c ≡ false → (not (60 == c) ≡ true) → (not (46 == c) ≡ true) → (not (62 == c) ≡ true)
    → (o : Option Span) (text : List ℕ) → PartialIs o text → Many (is_other c) text
partial_clean c d x y z None text h = subst (Many (is_other c)) (sym h) tt
partial_clean c d x y z (Some span) text h =
    let s = span_text span text h in
    subst (Many (is_other c)) (sym s.whole) (
      x,
      many_joined (is_other c) s.origin (46 ∷ (s.count ++ 62 ∷ [])) (digits_clean c d span.origin s.origin s.origin_is)
          (y, many_joined (is_other c) s.count (62 ∷ []) (digits_clean c d span.count s.count s.count_is) (z, tt)),
    )

-- ---- items of FETCH

item_lowered : Option FetchItem → List ℕ → Option FetchItem
item_lowered other low =
    cond (bytes_eq low (map to_ascii_lowercase (codes "UID"))) (Some fetch.Uid)
    (cond (bytes_eq low (map to_ascii_lowercase (codes "FLAGS"))) (Some fetch.Flags)
    (cond (bytes_eq low (map to_ascii_lowercase (codes "RFC822.SIZE"))) (Some fetch.Size)
    (cond (bytes_eq low (map to_ascii_lowercase (codes "INTERNALDATE"))) (Some fetch.InternalDate)
    (cond (bytes_eq low (map to_ascii_lowercase (codes "RFC822"))) (Some (fetch.Rfc822 Whole))
    (cond (bytes_eq low (map to_ascii_lowercase (codes "RFC822.HEADER"))) (Some (fetch.Rfc822 Header))
    (cond (bytes_eq low (map to_ascii_lowercase (codes "RFC822.TEXT"))) (Some (fetch.Rfc822 Text)) other))))))

body_made : Bool → BodyPart → Option Span → Option FetchItem
body_made peek part span = Some (fetch.Body peek part span)

body_cut : Bool → List ℕ × List ℕ → Option FetchItem
body_cut peek cut = part_of cut.0 >>= (λ part. partial_of cut.1 >>= body_made peek part)

body_again : (peek : Bool) (part : BodyPart) (span : Option Span) (rest : List ℕ) → (PartIs part ⨾ Exactly (93 ∷ []) ⨾ PartialIs span) rest
    → body_of peek rest ≡ Some (fetch.Body peek part span)
unfolding body_made body_cut
body_again peek part span rest q =
    let a = q.front in
    let b = q.second.back in
    let pair : List ℕ × List ℕ = (a, b) in
    let whole : rest ≡ a ++ 93 ∷ b = q.parts ∙ ap (λ l. a ++ l) (q.second.parts ∙ ap (λ l. l ++ b) q.second.first) in
    let cut : cut_at 93 rest ≡ Some pair = ap (cut_at 93) whole ∙ cut_again 93 a b (part_clean part a q.first) in
    ap (λ o. o >>= body_cut peek) cut
    ∙ ap (λ o. o >>= (λ p. partial_of b >>= body_made peek p)) (part_again part a q.first)
    ∙ ap (λ o. o >>= body_made peek part) (partial_again span b q.second.second)

-- what BODY and BODY.PEEK begin with
abbrev body_word : Bool → List ℕ
body_word peek = cond peek (codes "BODY.PEEK[") (codes "BODY[")

abbrev BodyIs : Bool → BodyPart → Option Span → List ℕ → Type 0
BodyIs peek part span = Keyword (body_word peek) ⨾ PartIs part ⨾ Exactly (93 ∷ []) ⨾ PartialIs span

body_lowered : (peek : Bool) (low : List ℕ) (other : Option FetchItem) → item_lowered other (map to_ascii_lowercase (body_word peek) ++ low) ≡ other
unfolding item_lowered
body_lowered true low other = refl
body_lowered false low other = refl

word_front : (word text rest : List ℕ) → Keyword word text → 5 ≤ length word → is_same (take 5 (text ++ rest)) (codes "BODY[") ≡ bytes_eq (take 5 (map to_ascii_lowercase word)) (map to_ascii_lowercase (codes "BODY["))
word_front word text rest h le =
    let n = word_length word text h in
    ap (λ (l : List ℕ). bytes_eq (map to_ascii_lowercase l) (map to_ascii_lowercase (codes "BODY["))) (take-append-le 5 text rest (omega (arith, n, le)))
    ∙ ap (λ (l : List ℕ). bytes_eq l (map to_ascii_lowercase (codes "BODY["))) (map_take 5 text ∙ ap (take 5) h)

body_past : (peek : Bool) (kw rest : List ℕ) → Keyword (body_word peek) kw
    → body_or_peek (past_keyword (codes "BODY[") (kw ++ rest)) (past_keyword (codes "BODY.PEEK[") (kw ++ rest)) ≡ body_of peek rest
body_past false kw rest h = ap (λ o. body_or_peek o (past_keyword (codes "BODY.PEEK[") (kw ++ rest))) (past_again (codes "BODY[") kw rest h)
body_past true kw rest h =
    let differs : is_same (take 5 (kw ++ rest)) (codes "BODY[") ≡ false = word_front (codes "BODY.PEEK[") kw rest h (omega arith) in
    ap (λ (t : Bool). body_or_peek (cond t (Some (drop 5 (kw ++ rest))) None) (past_keyword (codes "BODY.PEEK[") (kw ++ rest))) differs
    ∙ ap (body_or_peek None) (past_again (codes "BODY.PEEK[") kw rest h)

body_item : (peek : Bool) (part : BodyPart) (span : Option Span) (w : List ℕ) → BodyIs peek part span w → fetch_item_of w ≡ Some (fetch.Body peek part span)
unfolding item_lowered
body_item peek part span w q =
    let other : List ℕ → Option FetchItem = λ l. body_or_peek (past_keyword (codes "BODY[") l) (past_keyword (codes "BODY.PEEK[") l) in
    ap fetch_item_of q.parts
    ∙ ap (item_lowered (other (q.front ++ q.back))) (lowered (body_word peek) q.front q.back q.first)
    ∙ body_lowered peek (map to_ascii_lowercase q.back) (other (q.front ++ q.back))
    ∙ body_past peek q.front q.back q.first
    ∙ body_again peek part span q.back q.second

pub item_again : (x : FetchItem) (w : List ℕ) → ItemIs x w → fetch_item_of w ≡ Some x
unfolding item_lowered
item_again fetch.Uid w h = ap (item_lowered (body_or_peek (past_keyword (codes "BODY[") w) (past_keyword (codes "BODY.PEEK[") w))) h
item_again fetch.Flags w h = ap (item_lowered (body_or_peek (past_keyword (codes "BODY[") w) (past_keyword (codes "BODY.PEEK[") w))) h
item_again fetch.Size w h = ap (item_lowered (body_or_peek (past_keyword (codes "BODY[") w) (past_keyword (codes "BODY.PEEK[") w))) h
item_again fetch.InternalDate w h = ap (item_lowered (body_or_peek (past_keyword (codes "BODY[") w) (past_keyword (codes "BODY.PEEK[") w))) h
item_again (fetch.Rfc822 Whole) w h = ap (item_lowered (body_or_peek (past_keyword (codes "BODY[") w) (past_keyword (codes "BODY.PEEK[") w))) h
item_again (fetch.Rfc822 Header) w h = ap (item_lowered (body_or_peek (past_keyword (codes "BODY[") w) (past_keyword (codes "BODY.PEEK[") w))) h
item_again (fetch.Rfc822 Text) w h = ap (item_lowered (body_or_peek (past_keyword (codes "BODY[") w) (past_keyword (codes "BODY.PEEK[") w))) h
item_again (fetch.Body true part span) w h = body_item true part span w h
item_again (fetch.Body false part span) w h = body_item false part span w h

body_found : (peek : Bool) (w rest : List ℕ) (x : FetchItem) → FoundKeyword (body_word peek) w rest → body_of peek rest ≡ Some x
    → (part : BodyPart) × (span : Option Span) × (fetch.Body peek part span ≡ x) × BodyIs peek part span w
unfolding body_made body_cut
body_found peek w rest x k e =
    let a = bind_some (cut_at 93 rest) (body_cut peek) x e in
    let b = bind_some (part_of a.0.0) (λ p. partial_of a.0.1 >>= body_made peek p) x a.2 in
    let c = bind_some (partial_of a.0.1) (body_made peek b.0) x b.2 in
    let p = cut_sound 93 rest a.0.0 a.0.1 a.1 in (
      b.0,
      c.0,
      inside c.2,
      record {
        front = k.text;
        back = rest;
        parts = k.parts;
        first = k.is;
        second = record {
          front = a.0.0;
          back = 93 ∷ a.0.1;
          parts = p.whole;
          first = part_sound b.0 a.0.0 b.1;
          second = record { front = 93 ∷ []; back = a.0.1; parts = refl; first = refl; second = partial_sound c.0 a.0.1 c.1 };
        };
      },
    )
  where
    inside : {y z : FetchItem} → Some y ≡ Some z → y ≡ z
    inside h = cc

body_sound : (w : List ℕ) (x : FetchItem) (o p : Option (List ℕ)) → past_keyword (codes "BODY[") w ≡ o → past_keyword (codes "BODY.PEEK[") w ≡ p → body_or_peek o p ≡ Some x → ItemIs x w
body_sound w x (Some rest) p e f h =
    let k = body_found false w rest x (past_sound (codes "BODY[") w rest e) h in
    subst (λ y. ItemIs y w) k.2 k.3
body_sound w x None (Some rest) e f h =
    let k = body_found true w rest x (past_sound (codes "BODY.PEEK[") w rest f) h in
    subst (λ y. ItemIs y w) k.2 k.3
body_sound w x None None e f h = absurd cc

-- the first word of a list that a text is
item_step : (t : Bool) (word : List ℕ) (y x : FetchItem) (w : List ℕ) (other : Option FetchItem) → is_same w word ≡ t → cond t (Some y) other ≡ Some x
    → (Keyword word w → ItemIs y w) → (other ≡ Some x → ItemIs x w) → ItemIs x w
item_step true word y x w other e h here next = let is : y ≡ x = cc in subst (λ z. ItemIs z w) is (here (same_sound word w e))
item_step false word y x w other e h here next = next h

pub item_sound : (x : FetchItem) (w : List ℕ) → fetch_item_of w ≡ Some x → ItemIs x w
item_sound x w e =
    item_step (is_same w (codes "UID")) (codes "UID") fetch.Uid x w _ refl e (λ k. k)
    (λ e. item_step (is_same w (codes "FLAGS")) (codes "FLAGS") fetch.Flags x w _ refl e (λ k. k)
    (λ e. item_step (is_same w (codes "RFC822.SIZE")) (codes "RFC822.SIZE") fetch.Size x w _ refl e (λ k. k)
    (λ e. item_step (is_same w (codes "INTERNALDATE")) (codes "INTERNALDATE") fetch.InternalDate x w _ refl e (λ k. k)
    (λ e. item_step (is_same w (codes "RFC822")) (codes "RFC822") (fetch.Rfc822 Whole) x w _ refl e (λ k. k)
    (λ e. item_step (is_same w (codes "RFC822.HEADER")) (codes "RFC822.HEADER") (fetch.Rfc822 Header) x w _ refl e (λ k. k)
    (λ e. item_step (is_same w (codes "RFC822.TEXT")) (codes "RFC822.TEXT") (fetch.Rfc822 Text) x w _ refl e (λ k. k)
    (λ e. body_sound w x (past_keyword (codes "BODY[") w) (past_keyword (codes "BODY.PEEK[") w) refl refl e)))))))

-- ---- words of items

-- the word of an item that is a word alone
abbrev item_keyword : FetchItem → List ℕ
item_keyword fetch.Uid = codes "UID"
item_keyword fetch.Flags = codes "FLAGS"
item_keyword fetch.Size = codes "RFC822.SIZE"
item_keyword fetch.InternalDate = codes "INTERNALDATE"
item_keyword (fetch.Rfc822 which) = rfc822_word which
item_keyword (fetch.Body peek part span) = []

abbrev NotBody : FetchItem → Type 0
NotBody (fetch.Body peek part span) = ⊥
NotBody x = Unit {0}

word_32 : (x : FetchItem) → NotBody x → Many (is_other 32) (map to_ascii_lowercase (item_keyword x))
word_32 fetch.Uid h = (refl, (refl, (refl, tt)))
word_32 fetch.Flags h = (refl, (refl, (refl, (refl, (refl, tt)))))
word_32 fetch.Size h = (refl, (refl, (refl, (refl, (refl, (refl, (refl, (refl, (refl, (refl, (refl, tt)))))))))))
word_32 fetch.InternalDate h = (refl, (refl, (refl, (refl, (refl, (refl, (refl, (refl, (refl, (refl, (refl, (refl, tt))))))))))))
word_32 (fetch.Rfc822 Whole) h = (refl, (refl, (refl, (refl, (refl, (refl, tt))))))
word_32 (fetch.Rfc822 Header) h = (refl, (refl, (refl, (refl, (refl, (refl, (refl, (refl, (refl, (refl, (refl, (refl, (refl, tt)))))))))))))
word_32 (fetch.Rfc822 Text) h = (refl, (refl, (refl, (refl, (refl, (refl, (refl, (refl, (refl, (refl, (refl, tt)))))))))))
word_32 (fetch.Body peek part span) h = absurd h

word_40 : (x : FetchItem) → NotBody x → Many (is_other 40) (map to_ascii_lowercase (item_keyword x))
word_40 fetch.Uid h = (refl, (refl, (refl, tt)))
word_40 fetch.Flags h = (refl, (refl, (refl, (refl, (refl, tt)))))
word_40 fetch.Size h = (refl, (refl, (refl, (refl, (refl, (refl, (refl, (refl, (refl, (refl, (refl, tt)))))))))))
word_40 fetch.InternalDate h = (refl, (refl, (refl, (refl, (refl, (refl, (refl, (refl, (refl, (refl, (refl, (refl, tt))))))))))))
word_40 (fetch.Rfc822 Whole) h = (refl, (refl, (refl, (refl, (refl, (refl, tt))))))
word_40 (fetch.Rfc822 Header) h = (refl, (refl, (refl, (refl, (refl, (refl, (refl, (refl, (refl, (refl, (refl, (refl, (refl, tt)))))))))))))
word_40 (fetch.Rfc822 Text) h = (refl, (refl, (refl, (refl, (refl, (refl, (refl, (refl, (refl, (refl, (refl, tt)))))))))))
word_40 (fetch.Body peek part span) h = absurd h

word_41 : (x : FetchItem) → NotBody x → Many (is_other 41) (map to_ascii_lowercase (item_keyword x))
word_41 fetch.Uid h = (refl, (refl, (refl, tt)))
word_41 fetch.Flags h = (refl, (refl, (refl, (refl, (refl, tt)))))
word_41 fetch.Size h = (refl, (refl, (refl, (refl, (refl, (refl, (refl, (refl, (refl, (refl, (refl, tt)))))))))))
word_41 fetch.InternalDate h = (refl, (refl, (refl, (refl, (refl, (refl, (refl, (refl, (refl, (refl, (refl, (refl, tt))))))))))))
word_41 (fetch.Rfc822 Whole) h = (refl, (refl, (refl, (refl, (refl, (refl, tt))))))
word_41 (fetch.Rfc822 Header) h = (refl, (refl, (refl, (refl, (refl, (refl, (refl, (refl, (refl, (refl, (refl, (refl, (refl, tt)))))))))))))
word_41 (fetch.Rfc822 Text) h = (refl, (refl, (refl, (refl, (refl, (refl, (refl, (refl, (refl, (refl, (refl, tt)))))))))))
word_41 (fetch.Body peek part span) h = absurd h

word_91 : (x : FetchItem) → NotBody x → Many (is_other 91) (map to_ascii_lowercase (item_keyword x))
word_91 fetch.Uid h = (refl, (refl, (refl, tt)))
word_91 fetch.Flags h = (refl, (refl, (refl, (refl, (refl, tt)))))
word_91 fetch.Size h = (refl, (refl, (refl, (refl, (refl, (refl, (refl, (refl, (refl, (refl, (refl, tt)))))))))))
word_91 fetch.InternalDate h = (refl, (refl, (refl, (refl, (refl, (refl, (refl, (refl, (refl, (refl, (refl, (refl, tt))))))))))))
word_91 (fetch.Rfc822 Whole) h = (refl, (refl, (refl, (refl, (refl, (refl, tt))))))
word_91 (fetch.Rfc822 Header) h = (refl, (refl, (refl, (refl, (refl, (refl, (refl, (refl, (refl, (refl, (refl, (refl, (refl, tt)))))))))))))
word_91 (fetch.Rfc822 Text) h = (refl, (refl, (refl, (refl, (refl, (refl, (refl, (refl, (refl, (refl, (refl, tt)))))))))))
word_91 (fetch.Body peek part span) h = absurd h

item_some : (x : FetchItem) (w : List ℕ) → ItemIs x w → 0 < length w
item_some fetch.Uid w h = let n = word_length (codes "UID") w h in omega (arith, n)
item_some fetch.Flags w h = let n = word_length (codes "FLAGS") w h in omega (arith, n)
item_some fetch.Size w h = let n = word_length (codes "RFC822.SIZE") w h in omega (arith, n)
item_some fetch.InternalDate w h = let n = word_length (codes "INTERNALDATE") w h in omega (arith, n)
item_some (fetch.Rfc822 Whole) w h = let n = word_length (codes "RFC822") w h in omega (arith, n)
item_some (fetch.Rfc822 Header) w h = let n = word_length (codes "RFC822.HEADER") w h in omega (arith, n)
item_some (fetch.Rfc822 Text) w h = let n = word_length (codes "RFC822.TEXT") w h in omega (arith, n)
item_some (fetch.Body true part span) w h =
    let n = word_length (codes "BODY.PEEK[") h.front h.first in
    omega (arith, n, ap length h.parts, length-append h.front h.back)
item_some (fetch.Body false part span) w h =
    let n = word_length (codes "BODY[") h.front h.first in
    omega (arith, n, ap length h.parts, length-append h.front h.back)

-- no such byte stands outside of brackets, and each bracket that opens is closed
record Kept (c : ℕ) (w : List ℕ) : Type 0 where
  outside : Outside c false w
  closed : open_behind false w ≡ false

plain_kept : (c : ℕ) (x : FetchItem) (w : List ℕ) → to_ascii_lowercase c ≡ c → Many (is_other c) (map to_ascii_lowercase (item_keyword x)) → Many (is_other 91) (map to_ascii_lowercase (item_keyword x))
    → Keyword (item_keyword x) w → Kept c w
plain_kept c x w e m n h =
    let k = outside_plain c w (word_clean c e w _ h m) (word_clean 91 refl w _ h n) in
    record { outside = k.0; closed = k.1 }

-- BODY or BODY.PEEK, without its bracket
abbrev bare_word : Bool → List ℕ
bare_word peek = cond peek (codes "BODY.PEEK") (codes "BODY")

body_front : (peek : Bool) (c : ℕ) (kw : List ℕ) → to_ascii_lowercase c ≡ c → Many (is_other c) (map to_ascii_lowercase (bare_word peek)) → not (91 == c) ≡ true → Keyword (body_word peek) kw
    → Outside c false kw × (open_behind false kw ≡ true)
body_front true c kw e m b h = opened_word c (codes "BODY.PEEK") kw e m (refl, (refl, (refl, (refl, (refl, (refl, (refl, (refl, (refl, tt))))))))) b h
body_front false c kw e m b h = opened_word c (codes "BODY") kw e m (refl, (refl, (refl, (refl, tt)))) b h

body_kept : (c : ℕ) → to_ascii_lowercase c ≡ c → (not (91 == c) ≡ true) → is_digit c ≡ false → (not (60 == c) ≡ true) → (not (46 == c) ≡ true) → (not (62 == c) ≡ true)
    → (peek : Bool) (part : BodyPart) (span : Option Span) (w : List ℕ) → Many (is_other c) (map to_ascii_lowercase (bare_word peek)) → BodyIs peek part span w → Kept c w
body_kept c e v d x y z peek part span w m q =
    let r = q.second in
    let b = r.second in
    let front = body_front peek c q.front e m v q.first in
    let inner = outside_within c r.front (part_clean part r.front r.first) in
    let last = outside_plain c b.back (partial_clean c d x y z span b.back b.second) (partial_clean 91 refl refl refl refl span b.back b.second) in
    let end : Outside c true b.front × (open_behind true b.front ≡ false) = subst (λ l. Outside c true l × (open_behind true l ≡ false)) (sym b.first) ((refl, tt), refl) in
    let tail = both_outside c true b.front b.back false end.0 end.1 last.0 in
    let tail_closed = both_behind true b.front b.back false end.1 ∙ last.1 in
    let most = both_outside c true r.front (b.front ++ b.back) true inner.0 inner.1 tail in
    let most_closed = both_behind true r.front (b.front ++ b.back) true inner.1 ∙ tail_closed in
    let back : Outside c true q.back × (open_behind true q.back ≡ false) =
    subst (λ l. Outside c true l × (open_behind true l ≡ false)) (sym (r.parts ∙ ap (λ l. r.front ++ l) b.parts)) (most, most_closed) in
    subst (Kept c) (sym q.parts) (record {
      outside = both_outside c false q.front q.back true front.0 front.1 back.0;
      closed = both_behind false q.front q.back true front.1 ∙ back.1;
    })

item_kept : (c : ℕ) → to_ascii_lowercase c ≡ c → (not (91 == c) ≡ true) → is_digit c ≡ false → (not (60 == c) ≡ true) → (not (46 == c) ≡ true) → (not (62 == c) ≡ true)
    → ((x : FetchItem) → NotBody x → Many (is_other c) (map to_ascii_lowercase (item_keyword x))) → ((peek : Bool) → Many (is_other c) (map to_ascii_lowercase (bare_word peek)))
    → (x : FetchItem) (w : List ℕ) → ItemIs x w → Kept c w
item_kept c e v d x y z f g fetch.Uid w h = plain_kept c fetch.Uid w e (f fetch.Uid tt) (word_91 fetch.Uid tt) h
item_kept c e v d x y z f g fetch.Flags w h = plain_kept c fetch.Flags w e (f fetch.Flags tt) (word_91 fetch.Flags tt) h
item_kept c e v d x y z f g fetch.Size w h = plain_kept c fetch.Size w e (f fetch.Size tt) (word_91 fetch.Size tt) h
item_kept c e v d x y z f g fetch.InternalDate w h = plain_kept c fetch.InternalDate w e (f fetch.InternalDate tt) (word_91 fetch.InternalDate tt) h
item_kept c e v d x y z f g (fetch.Rfc822 which) w h = plain_kept c (fetch.Rfc822 which) w e (f (fetch.Rfc822 which) tt) (word_91 (fetch.Rfc822 which) tt) h
item_kept c e v d x y z f g (fetch.Body true part span) w h = body_kept c e v d x y z true part span w (g true) h
item_kept c e v d x y z f g (fetch.Body false part span) w h = body_kept c e v d x y z false part span w (g false) h

bare_32 : (peek : Bool) → Many (is_other 32) (map to_ascii_lowercase (bare_word peek))
bare_32 true = (refl, (refl, (refl, (refl, (refl, (refl, (refl, (refl, (refl, tt)))))))))
bare_32 false = (refl, (refl, (refl, (refl, tt))))

bare_41 : (peek : Bool) → Many (is_other 41) (map to_ascii_lowercase (bare_word peek))
bare_41 true = (refl, (refl, (refl, (refl, (refl, (refl, (refl, (refl, (refl, tt)))))))))
bare_41 false = (refl, (refl, (refl, (refl, tt))))

pub item_word : (x : FetchItem) (w : List ℕ) → ItemIs x w → ItemWord w
item_word x w h =
    let k = item_kept 32 refl refl refl refl refl refl word_32 bare_32 x w h in
    record { some = item_some x w h; whole = k.outside; closed = k.closed }

pub item_unclosed : (x : FetchItem) (w : List ℕ) → ItemIs x w → Outside 41 false w
item_unclosed x w h = (item_kept 41 refl refl refl refl refl refl word_41 bare_41 x w h).outside

-- ---- items of STATUS

status_lowered : List ℕ → Option StatusItem
status_lowered low =
    cond (bytes_eq low (map to_ascii_lowercase (codes "MESSAGES"))) (Some status.Messages)
    (cond (bytes_eq low (map to_ascii_lowercase (codes "UIDNEXT"))) (Some status.UidNext)
    (cond (bytes_eq low (map to_ascii_lowercase (codes "UIDVALIDITY"))) (Some status.UidValidity)
    (cond (bytes_eq low (map to_ascii_lowercase (codes "UNSEEN"))) (Some status.Unseen)
    (cond (bytes_eq low (map to_ascii_lowercase (codes "DELETED"))) (Some status.Deleted)
    (cond (bytes_eq low (map to_ascii_lowercase (codes "SIZE"))) (Some status.Size)
    (cond (bytes_eq low (map to_ascii_lowercase (codes "RECENT"))) (Some status.Recent) None))))))

status_known : (x : StatusItem) → status_lowered (map to_ascii_lowercase (status_word x)) ≡ Some x
unfolding status_lowered
status_known status.Messages = refl
status_known status.UidNext = refl
status_known status.UidValidity = refl
status_known status.Unseen = refl
status_known status.Deleted = refl
status_known status.Size = refl
status_known status.Recent = refl

pub status_again : (x : StatusItem) (w : List ℕ) → StatusItemIs x w → status_item_of w ≡ Some x
unfolding status_lowered
status_again x w h = ap status_lowered h ∙ status_known x

-- the first word of a list that a text is
status_step : (t : Bool) (x y : StatusItem) (w : List ℕ) (other : Option StatusItem) → is_same w (status_word x) ≡ t → cond t (Some x) other ≡ Some y
    → (other ≡ Some y → StatusItemIs y w) → StatusItemIs y w
status_step true x y w other e h next = let is : x ≡ y = cc in subst (λ z. StatusItemIs z w) is (same_sound (status_word x) w e)
status_step false x y w other e h next = next h

pub status_sound : (x : StatusItem) (w : List ℕ) → status_item_of w ≡ Some x → StatusItemIs x w
status_sound x w e =
    status_step (is_same w (codes "MESSAGES")) status.Messages x w _ refl e
    (λ e. status_step (is_same w (codes "UIDNEXT")) status.UidNext x w _ refl e
    (λ e. status_step (is_same w (codes "UIDVALIDITY")) status.UidValidity x w _ refl e
    (λ e. status_step (is_same w (codes "UNSEEN")) status.Unseen x w _ refl e
    (λ e. status_step (is_same w (codes "DELETED")) status.Deleted x w _ refl e
    (λ e. status_step (is_same w (codes "SIZE")) status.Size x w _ refl e
    (λ e. status_step (is_same w (codes "RECENT")) status.Recent x w _ refl e
    (λ e. absurd (let bad : None ≡ Some x = e in cc))))))))

status_clean : (c : ℕ) → to_ascii_lowercase c ≡ c → ((x : StatusItem) → Many (is_other c) (map to_ascii_lowercase (status_word x))) → (x : StatusItem) (w : List ℕ) → StatusItemIs x w → Many (is_other c) w
status_clean c e f x w h = word_clean c e w _ h (f x)

status_spaces : (x : StatusItem) → Many (is_other 32) (map to_ascii_lowercase (status_word x))
status_spaces status.Messages = (refl, (refl, (refl, (refl, (refl, (refl, (refl, (refl, tt))))))))
status_spaces status.UidNext = (refl, (refl, (refl, (refl, (refl, (refl, (refl, tt)))))))
status_spaces status.UidValidity = (refl, (refl, (refl, (refl, (refl, (refl, (refl, (refl, (refl, (refl, (refl, tt)))))))))))
status_spaces status.Unseen = (refl, (refl, (refl, (refl, (refl, (refl, tt))))))
status_spaces status.Deleted = (refl, (refl, (refl, (refl, (refl, (refl, (refl, tt)))))))
status_spaces status.Size = (refl, (refl, (refl, (refl, tt))))
status_spaces status.Recent = (refl, (refl, (refl, (refl, (refl, (refl, tt))))))

status_closes : (x : StatusItem) → Many (is_other 41) (map to_ascii_lowercase (status_word x))
status_closes status.Messages = (refl, (refl, (refl, (refl, (refl, (refl, (refl, (refl, tt))))))))
status_closes status.UidNext = (refl, (refl, (refl, (refl, (refl, (refl, (refl, tt)))))))
status_closes status.UidValidity = (refl, (refl, (refl, (refl, (refl, (refl, (refl, (refl, (refl, (refl, (refl, tt)))))))))))
status_closes status.Unseen = (refl, (refl, (refl, (refl, (refl, (refl, tt))))))
status_closes status.Deleted = (refl, (refl, (refl, (refl, (refl, (refl, (refl, tt)))))))
status_closes status.Size = (refl, (refl, (refl, (refl, tt))))
status_closes status.Recent = (refl, (refl, (refl, (refl, (refl, (refl, tt))))))

status_some : (x : StatusItem) → 0 < length (status_word x)
status_some status.Messages = omega arith
status_some status.UidNext = omega arith
status_some status.UidValidity = omega arith
status_some status.Unseen = omega arith
status_some status.Deleted = omega arith
status_some status.Size = omega arith
status_some status.Recent = omega arith

pub status_bare : (x : StatusItem) (w : List ℕ) → StatusItemIs x w → Some1 is_not_space w
status_bare x w h = (let n = word_length (status_word x) w h in omega (arith, n, status_some x), status_clean 32 refl status_spaces x w h)

pub status_open : (x : StatusItem) (w : List ℕ) → StatusItemIs x w → Many (is_other 41) w
status_open x w h = status_clean 41 refl status_closes x w h

-- a text that begins with bytes of which none opens a parenthesis
pub record NoParenthesis (w : List ℕ) : Type 0 where
  pub front : List ℕ
  pub back : List ℕ
  pub whole : w ≡ front ++ back
  pub some : 0 < length front
  pub clean : Many (is_other 40) front

keyword_front : (word w : List ℕ) → 0 < length word → Many (is_other 40) (map to_ascii_lowercase word) → Keyword word w → NoParenthesis w
keyword_front word w some m h = record {
  front = w;
  back = [];
  whole = sym (append-nil w);
  some = (let n = word_length word w h in omega (arith, n, some));
  clean = word_clean 40 refl w _ h m;
}

body_first : (peek : Bool) → Many (is_other 40) (map to_ascii_lowercase (body_word peek))
body_first true = (refl, (refl, (refl, (refl, (refl, (refl, (refl, (refl, (refl, (refl, tt))))))))))
body_first false = (refl, (refl, (refl, (refl, (refl, tt)))))

body_long : (peek : Bool) → 0 < length (body_word peek)
body_long true = omega arith
body_long false = omega arith

body_front_kept : (peek : Bool) (part : BodyPart) (span : Option Span) (w : List ℕ) → BodyIs peek part span w → NoParenthesis w
body_front_kept peek part span w q = record {
  front = q.front;
  back = q.back;
  whole = q.parts;
  some = (let n = word_length (body_word peek) q.front q.first in omega (arith, n, body_long peek));
  clean = word_clean 40 refl q.front _ q.first (body_first peek);
}

pub item_front : (x : FetchItem) (w : List ℕ) → ItemIs x w → NoParenthesis w
item_front fetch.Uid w h = keyword_front (codes "UID") w (omega arith) (word_40 fetch.Uid tt) h
item_front fetch.Flags w h = keyword_front (codes "FLAGS") w (omega arith) (word_40 fetch.Flags tt) h
item_front fetch.Size w h = keyword_front (codes "RFC822.SIZE") w (omega arith) (word_40 fetch.Size tt) h
item_front fetch.InternalDate w h = keyword_front (codes "INTERNALDATE") w (omega arith) (word_40 fetch.InternalDate tt) h
item_front (fetch.Rfc822 Whole) w h = keyword_front (codes "RFC822") w (omega arith) (word_40 (fetch.Rfc822 Whole) tt) h
item_front (fetch.Rfc822 Header) w h = keyword_front (codes "RFC822.HEADER") w (omega arith) (word_40 (fetch.Rfc822 Header) tt) h
item_front (fetch.Rfc822 Text) w h = keyword_front (codes "RFC822.TEXT") w (omega arith) (word_40 (fetch.Rfc822 Text) tt) h
item_front (fetch.Body true part span) w h = body_front_kept true part span w h
item_front (fetch.Body false part span) w h = body_front_kept false part span w h

-- ---- FAST

-- no item has as many bytes as FAST
item_length : (x : FetchItem) (w : List ℕ) → ItemIs x w → length w ≡ 4 → ⊥
item_length fetch.Uid w h e = let n = word_length (codes "UID") w h in omega (arith, n, e)
item_length fetch.Flags w h e = let n = word_length (codes "FLAGS") w h in omega (arith, n, e)
item_length fetch.Size w h e = let n = word_length (codes "RFC822.SIZE") w h in omega (arith, n, e)
item_length fetch.InternalDate w h e = let n = word_length (codes "INTERNALDATE") w h in omega (arith, n, e)
item_length (fetch.Rfc822 Whole) w h e = let n = word_length (codes "RFC822") w h in omega (arith, n, e)
item_length (fetch.Rfc822 Header) w h e = let n = word_length (codes "RFC822.HEADER") w h in omega (arith, n, e)
item_length (fetch.Rfc822 Text) w h e = let n = word_length (codes "RFC822.TEXT") w h in omega (arith, n, e)
item_length (fetch.Body true part span) w h e =
    let n = word_length (codes "BODY.PEEK[") h.front h.first in
    omega (arith, n, e, ap length h.parts, length-append h.front h.back)
item_length (fetch.Body false part span) w h e =
    let n = word_length (codes "BODY[") h.front h.first in
    omega (arith, n, e, ap length h.parts, length-append h.front h.back)

other_length : (t : Bool) (w : List ℕ) → is_same w (codes "FAST") ≡ t → (length w ≡ 4 → ⊥) → t ≡ false
other_length true w e h = absurd (h (word_length (codes "FAST") w (same_sound (codes "FAST") w e)))
other_length false w e h = refl

pub item_not_fast : (x : FetchItem) (w : List ℕ) → ItemIs x w → is_same w (codes "FAST") ≡ false
item_not_fast x w h = other_length (is_same w (codes "FAST")) w refl (item_length x w h)

pub is_fast : (w : List ℕ) → Keyword (codes "FAST") w → is_same w (codes "FAST") ≡ true
is_fast w h = ap (λ (l : List ℕ). bytes_eq l (map to_ascii_lowercase (codes "FAST"))) h

pub fast_word : (w : List ℕ) → Keyword (codes "FAST") w → ItemWord w
fast_word w h =
    let k = outside_plain 32 w (word_clean 32 refl w _ h (refl, (refl, (refl, (refl, tt))))) (word_clean 91 refl w _ h (refl, (refl, (refl, (refl, tt))))) in
    record { some = (let n = word_length (codes "FAST") w h in omega (arith, n)); whole = k.0; closed = k.1 }

pub fast_front : (w : List ℕ) → Keyword (codes "FAST") w → NoParenthesis w
fast_front w h = keyword_front (codes "FAST") w (omega arith) (refl, (refl, (refl, (refl, tt)))) h
