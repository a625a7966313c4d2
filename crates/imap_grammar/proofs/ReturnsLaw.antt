-- What a search is to return: what is spelled is read, and what is read is spelled.
use Rattle.std.proofs.Common.{◌≡◌, ℕ, ◌<◌, Bool, true, false, cond, List, [], ◌∷◌, ◌++◌, length, refl, ap, sym, subst, ◌∙◌, arith, append_assoc, inl, inr}
use Rattle.std.specs.Prelude.{Option, Some, None, codes, is_some, ◌&&◌, ◌||◌, map}
use Rattle.std.specs.Char.{to_ascii_lowercase}
use Rattle.std.specs.List.{list_all, filter_map, cons_option}
use Rattle.std.specs.Str.{str_eq_ignore_ascii_case as is_same}
use Rattle.envelope.proofs.Sound.{bind_some, guard_some}
use Rattle.envelope.proofs.Tails.{each_of}
use Rattle.envelope.proofs.Tokens.{Stops}
use Rattle.envelope.proofs.Words.{append_none, both_true, is_both}
use Rattle.envelope.specs.Bytes.{is_not_space, is_space}
use Rattle.envelope.specs.Grammar.{Many, Some1, Gap, Keyword, Joined}
use Rattle.envelope.specs.Reading.{◌>>=◌, words}
use Rattle.imap_grammar.specs.Bytes.{is_key_byte}
use Rattle.imap_grammar.specs.Front.{past_gap}
use Rattle.imap_grammar.specs.Grammar.{Parenthesized, ReturnWord, ReturnWords, ReturnsAre, Separated}
use Rattle.imap_grammar.specs.Reading.{is_tight, parens_at, returns_at, returns_in, returns_or}
use Rattle.imap_grammar.specs.Returns.{is_return, returns_among}
use Rattle.imap_grammar.specs.SearchReading.{key_word_at, key_word_of}
use Rattle.imap_grammar.specs.declared.command.SearchReturns.{SearchReturns}
use Rattle.imap_grammar.specs.declared.key_words.KeyWord.{KeyWord}
use Rattle.imap_grammar.specs.declared.key_words.KeyWord.TheVariants as starts_with
use Rattle.imap_grammar.proofs.AppendLaw.{parens_again, parens_sound}
use Rattle.imap_grammar.proofs.Chains.{inside}
use Rattle.imap_grammar.proofs.Cuts.{is_other}
use Rattle.imap_grammar.proofs.Keywords.{same_sound, word_length}
use Rattle.imap_grammar.proofs.ListLaw.{paren_text, separated_many, space_open, text_paren}
use Rattle.imap_grammar.proofs.Parens.{separated_tight, tight_end, tight_stops}
use Rattle.imap_grammar.proofs.SearchWords.{gap_ends, key_clean, key_front, key_word_back, key_word_parts, no_space, word_again, word_sound}
use Rattle.imap_grammar.proofs.Separated.{AllRead, words_again, words_sound}
use Rattle.imap_grammar.proofs.Tokens.{excludes, gap_again, gap_sound, many_map, starts}

-- ---- words

-- a word of key bytes, which has some
RunsOn : List ℕ → Type 0
RunsOn word = (list_all is_key_byte (map to_ascii_lowercase word) ≡ true) × (0 < length word)

spelled_bytes : (word text : List ℕ) → RunsOn word → is_same text word ≡ true → Some1 is_key_byte text
unfolding RunsOn
spelled_bytes word text r e =
    let h : Keyword word text = same_sound word text e in
    let size = word_length word text h in
    let some = r.1 in
    (omega (arith, size, some), key_clean text (map to_ascii_lowercase word) h (each_of is_key_byte (map to_ascii_lowercase word) r.0))

one_of_four : (a b c d : Bool) (P : Type 0) → (a ≡ true → P) → (b ≡ true → P) → (c ≡ true → P) → (d ≡ true → P) → (a || b || c || d) ≡ true → P
one_of_four true b c d P f g h k e = f refl
one_of_four false true c d P f g h k e = g refl
one_of_four false false true d P f g h k e = h refl
one_of_four false false false true P f g h k e = k refl
one_of_four false false false false P f g h k e = absurd cc

return_bytes : (text : List ℕ) → is_return text ≡ true → Some1 is_key_byte text
unfolding RunsOn
return_bytes text e =
    one_of_four (is_same text (codes "MIN")) (is_same text (codes "MAX")) (is_same text (codes "COUNT")) (is_same text (codes "ALL")) (Some1 is_key_byte text)
    (λ h. spelled_bytes (codes "MIN") text (refl, omega arith) h) (λ h. spelled_bytes (codes "MAX") text (refl, omega arith) h)
    (λ h. spelled_bytes (codes "COUNT") text (refl, omega arith) h) (λ h. spelled_bytes (codes "ALL") text (refl, omega arith) h) e

one_return : List ℕ → Option (List ℕ)
one_return w = cond (is_return w) (Some w) None

return_again : (word t : List ℕ) → ReturnWord word t → one_return t ≡ Some word
unfolding one_return
return_again word t h = ap one_return h.0 ∙ ap (λ (b : Bool). cond b (Some word) None) h.1

return_sound : (word t : List ℕ) → one_return t ≡ Some word → ReturnWord word t
unfolding one_return
return_sound word t e =
    let k = guard_some (is_return t) t word e in
    (k.1, ap is_return (sym k.1) ∙ k.0)

word_bytes : (word t : List ℕ) → ReturnWord word t → Some1 is_key_byte t
word_bytes word t h = return_bytes t (ap is_return h.0 ∙ h.1)

word_clean : (word t : List ℕ) → ReturnWord word t → Many (is_other 41) t
word_clean word t h = many_map is_key_byte (is_other 41) (λ b k. excludes is_key_byte 41 refl b k) t (word_bytes word t h).1

word_bare : (word t : List ℕ) → ReturnWord word t → Some1 is_not_space t
word_bare word t h =
    let k = word_bytes word t h in (k.0, many_map is_key_byte is_not_space (λ b e. excludes is_key_byte 32 refl b e) t k.1)

all_returns : (ws : List (List ℕ)) → list_all (λ w. is_some (one_return w)) ws ≡ true → (list_all is_return ws ≡ true) × (filter_map one_return ws ≡ ws)
unfolding one_return
all_returns [] e = (refl, refl)
all_returns (w ∷ ws) e =
    let b = both_true (is_some (one_return w)) (list_all (λ v. is_some (one_return v)) ws) e in
    let f : is_return w ≡ true = some_return (is_return w) b.0 in
    let r = all_returns ws b.1 in
    (is_both (is_return w) (list_all is_return ws) f r.0, ap (λ (t : Bool). cons_option (cond t (Some w) None) (filter_map one_return ws)) f ∙ ap (λ l. w ∷ l) r.1)
  where
    some_return : (t : Bool) → is_some (cond t (Some w) None) ≡ true → t ≡ true
    some_return true k = refl
    some_return false k = absurd cc

returns_all : (ws : List (List ℕ)) → list_all is_return ws ≡ true → list_all (λ w. is_some (one_return w)) ws ≡ true
unfolding one_return
returns_all [] e = refl
returns_all (w ∷ ws) e =
    let b = both_true (is_return w) (list_all is_return ws) e in
    ap (λ (t : Bool). is_some (cond t (Some w) None) && list_all (λ v. is_some (one_return v)) ws) b.0 ∙ returns_all ws b.1

-- ---- words between parentheses

words_read : (ws : List (List ℕ)) (inner : List ℕ) (returns : SearchReturns) → ReturnWords ws inner → returns_among ws ≡ returns
    → Many (is_other 41) inner × (is_tight inner ≡ true) × (returns_in inner ≡ Some returns)
words_read [] inner returns (inl q) e = absurd q
words_read (word ∷ ws) inner returns (inl q) e =
    let k = words_again one_return ReturnWord return_again word_bare word ws inner [] q tt in
    let all : AllRead one_return (words inner) (word ∷ ws) = subst (λ l. AllRead one_return (words l) (word ∷ ws)) (append_none inner) k in
    let a = all_returns (words inner) all.all in
    let same : words inner ≡ word ∷ ws = sym a.1 ∙ all.are in (
      separated_many (is_other 41) ReturnWord space_open word_clean word ws inner q,
      separated_tight ReturnWord word_bare word ws inner q,
      ap (λ (t : Bool). cond t (Some (returns_among (words inner))) None) a.0
          ∙ ap (λ l. Some (returns_among l)) same
          ∙ ap (λ r. Some r) e,
    )
words_read ws inner returns (inr h) e = (
  subst (Many (is_other 41)) (sym h.1) tt,
  ap is_tight h.1,
  ap returns_in h.1 ∙ ap (λ l. Some (returns_among l)) (sym h.0) ∙ ap (λ r. Some r) e,
)

words_found : (inner : List ℕ) (returns : SearchReturns) → is_tight inner ≡ true → returns_in inner ≡ Some returns
    → (ws : List (List ℕ)) × (returns_among ws ≡ returns) × ReturnWords ws inner
words_found [] returns t e =
    let none : List (List ℕ) = [] in
    (none, (guard_some true (returns_among none) returns e).1, inr (refl, refl))
words_found (x ∷ xs) returns t e =
    let inner = x ∷ xs in
    let k = guard_some (list_all is_return (words inner)) (returns_among (words inner)) returns e in
    let all = returns_all (words inner) k.0 in
    let w = words_sound one_return ReturnWord return_sound inner (tight_stops inner t) (omega arith) all in
    let same : inner ≡ w.text = tight_end inner w.text w.spaces w.parts w.blank t in
    let are : w.found.first ∷ w.found.others ≡ words inner = sym w.found.are ∙ (all_returns (words inner) all).1 in (
      w.found.first ∷ w.found.others,
      ap returns_among are ∙ k.1,
      inl (subst (Separated Gap ReturnWord (w.found.first ∷ w.found.others)) (sym same) w.found.is),
    )

-- ---- behind RETURN

with_rest : SearchReturns → List ℕ → Option (Option SearchReturns × List ℕ)
with_rest returns rest = Some (Some returns, rest)

returns_end : List ℕ × List ℕ → Option (Option SearchReturns × List ℕ)
returns_end cut = returns_in cut.0 >>= (λ returns. past_gap cut.1 >>= with_rest returns)

ReturnNamed : List (List ℕ) → List ℕ → Type 0
ReturnNamed ws = Joined (Keyword (codes "RETURN")) (Joined Gap (Joined (Parenthesized (ReturnWords ws)) Gap))

named_again : (ws : List (List ℕ)) (returns : SearchReturns) (text after : List ℕ) → ReturnNamed ws text → returns_among ws ≡ returns → Stops is_space after
    → returns_at (text ++ after) ≡ Some (Some returns, after)
unfolding ReturnNamed with_rest returns_end
named_again ws returns text after q e s =
    let r = q.second in
    let n = r.second in
    let p = paren_text (ReturnWords ws) n.front n.first in
    let k = words_read ws p.0 returns p.2 e in
    let tail : List ℕ = n.back ++ after in
    let list : List ℕ = 40 ∷ (p.0 ++ 41 ∷ []) in
    let inner : List ℕ = list ++ tail in
    let behind : List ℕ = r.front ++ inner in
    let whole : text ++ after ≡ q.front ++ behind =
    ap (λ l. l ++ after) (q.parts ∙ ap (λ l. q.front ++ l) (r.parts ∙ ap (λ l. r.front ++ l) (n.parts ∙ ap (λ l. l ++ n.back) p.1)))
    ∙ append_assoc q.front (r.front ++ (list ++ n.back)) after
    ∙ ap (λ l. q.front ++ l) (append_assoc r.front (list ++ n.back) after ∙ ap (λ l. r.front ++ l) (append_assoc list n.back after)) in
    let word = key_front starts_with.Return q.front q.first in
    ap returns_at whole
    ∙ ap (λ (c : List ℕ × List ℕ). returns_or (key_word_of c.0) c.1 (q.front ++ behind)) (key_word_back q.front behind word.1 (gap_ends r.front inner r.first))
    ∙ ap (λ o. returns_or o behind (q.front ++ behind)) (word_again starts_with.Return q.front q.first)
    ∙ ap (λ o. o >>= (λ start. parens_at start >>= returns_end)) (gap_again r.front inner r.first refl)
    ∙ ap (λ o. o >>= returns_end) (parens_again p.0 tail k.0 k.1)
    ∙ ap (λ o. o >>= (λ found. past_gap tail >>= with_rest found)) k.2
    ∙ ap (λ o. o >>= with_rest returns) (gap_again n.back after n.second s)

none_named : (o : Option KeyWord) (rest bytes : List ℕ) → (o ≡ Some starts_with.Return → ⊥) → returns_or o rest bytes ≡ Some (None, bytes)
none_named None rest bytes f = refl
none_named (Some starts_with.Return) rest bytes f = absurd (f refl)
none_named (Some starts_with.All) rest bytes f = refl
none_named (Some w) rest bytes f = refl

pub returns_again : (returns : Option SearchReturns) (text after : List ℕ) → ReturnsAre returns text → Stops is_space after
    → (key_word_of (key_word_at after).0 ≡ Some starts_with.Return → ⊥) → returns_at (text ++ after) ≡ Some (returns, after)
unfolding ReturnNamed
returns_again None text after h s never =
    ap (λ l. returns_at (l ++ after)) h ∙ none_named (key_word_of (key_word_at after).0) (key_word_at after).1 after never
returns_again (Some returns) text after (ws, e, q) s never = named_again ws returns text after q e s

pub returns_stop : (returns : Option SearchReturns) (front back text : List ℕ) → text ≡ front ++ back → ReturnsAre returns front → Stops is_space back → Stops is_space text
returns_stop None front back text e h s = subst (Stops is_space) (sym (e ∙ ap (λ l. l ++ back) h)) s
returns_stop (Some returns) front back text e (ws, k, q) s =
    let whole : text ≡ q.front ++ (q.back ++ back) = e ∙ ap (λ l. l ++ back) q.parts ∙ append_assoc q.front q.back back in
    subst (Stops is_space) (sym whole) (starts is_key_byte no_space q.front (q.back ++ back) (key_front starts_with.Return q.front q.first))

pub record FoundReturns (returns : Option SearchReturns) (bytes rest : List ℕ) : Type 0 where
  pub text : List ℕ
  pub parts : bytes ≡ text ++ rest
  pub is : ReturnsAre returns text

abbrev read_as : Option SearchReturns → List ℕ → Option (Option SearchReturns × List ℕ)
read_as returns rest = Some (returns, rest)

no_returns : (returns : Option SearchReturns) (bytes rest : List ℕ) → read_as None bytes ≡ read_as returns rest → FoundReturns returns bytes rest
no_returns returns bytes rest e =
    let a : Option SearchReturns × List ℕ = (None, bytes) in
    let b : Option SearchReturns × List ℕ = (returns, rest) in
    subst (λ (p : Option SearchReturns × List ℕ). FoundReturns p.0 bytes p.1) (inside a b e) (record { text = []; parts = refl; is = refl })

named_sound : (returns : Option SearchReturns) (bytes word after rest : List ℕ) → bytes ≡ word ++ after → Keyword (codes "RETURN") word
    → returns_or (Some starts_with.Return) after bytes ≡ Some (returns, rest) → FoundReturns returns bytes rest
unfolding with_rest returns_end
named_sound returns bytes word after rest e w h =
    let b : Option SearchReturns × List ℕ = (returns, rest) in
    let g = bind_some (past_gap after) (λ start. parens_at start >>= returns_end) b h in
    let c = bind_some (parens_at g.0) returns_end b g.2 in
    let r = bind_some (returns_in c.0.0) (λ found. past_gap c.0.1 >>= with_rest found) b c.2 in
    let d = bind_some (past_gap c.0.1) (with_rest r.0) b r.2 in
    let i = gap_sound after g.0 g.1 in
    let p = parens_sound g.0 c.0 c.1 in
    let k = words_found c.0.0 r.0 p.tight r.1 in
    let j = gap_sound c.0.1 d.0 d.1 in
    let list : List ℕ = 40 ∷ (c.0.0 ++ 41 ∷ []) in
    let inner : List ℕ = i.gap ++ (list ++ j.gap) in
    let whole : bytes ≡ (word ++ inner) ++ d.0 =
    e
    ∙ ap (λ l. word ++ l) (i.parts ∙ ap (λ l. i.gap ++ l) (p.parts ∙ ap (λ l. list ++ l) j.parts ∙ sym (append_assoc list j.gap d.0))
    ∙ sym (append_assoc i.gap (list ++ j.gap) d.0))
    ∙ sym (append_assoc word inner d.0) in
    let a : Option SearchReturns × List ℕ = (Some r.0, d.0) in
    let found : FoundReturns (Some r.0) bytes d.0 =
    record {
      text = word ++ inner;
      parts = whole;
      is = (
        k.0,
        k.1,
        record {
          front = word;
          back = inner;
          parts = refl;
          first = w;
          second = record {
            front = i.gap;
            back = list ++ j.gap;
            parts = refl;
            first = i.is;
            second = record { front = list; back = j.gap; parts = refl; first = text_paren (ReturnWords k.0) c.0.0 k.2; second = j.is };
          };
        },
      );
    } in
    subst (λ (x : Option SearchReturns × List ℕ). FoundReturns x.0 bytes x.1) (inside a b d.2) found

returns_case : (o : Option KeyWord) (returns : Option SearchReturns) (bytes word after rest : List ℕ) → bytes ≡ word ++ after → key_word_of word ≡ o
    → returns_or o after bytes ≡ Some (returns, rest) → FoundReturns returns bytes rest
returns_case None returns bytes word after rest e w h = no_returns returns bytes rest h
returns_case (Some starts_with.Return) returns bytes word after rest e w h =
    named_sound returns bytes word after rest e (word_sound starts_with.Return word w) h
returns_case (Some starts_with.All) returns bytes word after rest e w h = no_returns returns bytes rest h
returns_case (Some x) returns bytes word after rest e w h = no_returns returns bytes rest h

pub returns_sound : (returns : Option SearchReturns) (bytes rest : List ℕ) → returns_at bytes ≡ Some (returns, rest) → FoundReturns returns bytes rest
returns_sound returns bytes rest e =
    let w = key_word_at bytes in
    returns_case (key_word_of w.0) returns bytes w.0 w.1 rest (key_word_parts bytes) refl e
