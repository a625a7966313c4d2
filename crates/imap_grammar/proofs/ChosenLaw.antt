-- What follows SEARCH: what is spelled is read, and what is read is spelled.
use Rattle.std.proofs.Common.{◌≡◌, ℕ, Bool, true, List, [], ◌++◌, refl, ap, sym, subst, ◌∙◌, append_assoc, inl, inr}
use Rattle.std.specs.Prelude.{Option, Some, None, codes}
use Rattle.envelope.proofs.Sound.{bind_some}
use Rattle.envelope.proofs.Tokens.{Stops}
use Rattle.envelope.specs.Bytes.{is_space}
use Rattle.envelope.specs.Grammar.{Spaces, Gap, Exactly, Keyword, Joined}
use Rattle.envelope.specs.Reading.{◌>>=◌}
use Rattle.imap_grammar.specs.Bytes.{is_atom}
use Rattle.imap_grammar.specs.Front.{past_gap}
use Rattle.imap_grammar.specs.Grammar.{Name, CharsetIs, KeysOf, KeyIs, ReturnsAre, ArgumentsOf, is_known_charset, most_levels}
use Rattle.imap_grammar.specs.Keys.{Key}
use Rattle.imap_grammar.specs.Reading.{string_at, charset_or, charset_at, returns_at, search_at}
use Rattle.imap_grammar.specs.SearchReading.{key_word_of, key_word_at, keys_in}
use Rattle.imap_grammar.specs.declared.command.Search.{Search}
use Rattle.imap_grammar.specs.declared.command.SearchReturns.{SearchReturns}
use Rattle.imap_grammar.specs.declared.command.Command.{Command}
use Rattle.imap_grammar.specs.declared.command.Command.TheVariants as say
use Rattle.imap_grammar.specs.declared.key_words.KeyWord.{KeyWord}
use Rattle.imap_grammar.specs.declared.key_words.KeyWord.TheVariants as words
use Rattle.imap_grammar.proofs.Chains.{regroup, ungroup, behind, inside, past, gap_first, name_read}
use Rattle.imap_grammar.proofs.SearchLaw.{keys_in_again, keys_in_sound, keys_begun, keys_no_charset, keys_no_return}
use Rattle.imap_grammar.proofs.ReturnsLaw.{returns_again, returns_sound, returns_stop}
use Rattle.imap_grammar.proofs.SearchWords.{gap_ends, key_front, key_word_back, key_word_parts, no_space, three_parts, word_again, word_sound}
use Rattle.imap_grammar.proofs.Tokens.{gap_again, gap_sound, starts, string_sound}

-- the arguments one after the other, and what is behind the last
abbrev pub SearchIs : Search → List ℕ → Type 0
SearchIs s = Joined Gap (Joined (ReturnsAre s.returns) (Joined (CharsetIs s.known_charset) (Joined (KeysOf (KeyIs most_levels) s.keys) Spaces)))

pub search_regroup : (s : Search) (rest : List ℕ) → Joined (ArgumentsOf (say.Search s)) Spaces rest → SearchIs s rest
search_regroup s rest q =
    let keys = KeysOf (KeyIs most_levels) s.keys in
    behind Gap _ _ (λ l p. behind (ReturnsAre s.returns) _ _ (λ m r. regroup (CharsetIs s.known_charset) keys Spaces m r) l
    (regroup (ReturnsAre s.returns) (Joined (CharsetIs s.known_charset) keys) Spaces l p)) rest (regroup _ _ Spaces rest q)

pub search_ungroup : (s : Search) (rest : List ℕ) → SearchIs s rest → Joined (ArgumentsOf (say.Search s)) Spaces rest
search_ungroup s rest q =
    let keys = KeysOf (KeyIs most_levels) s.keys in
    ungroup _ _ Spaces rest (behind Gap _ _ (λ l p. ungroup (ReturnsAre s.returns) (Joined (CharsetIs s.known_charset) keys) Spaces l
    (behind (ReturnsAre s.returns) _ _ (λ m r. ungroup (CharsetIs s.known_charset) keys Spaces m r) l p)) rest q)

search_made : Bool → Option SearchReturns → Bool → Key → Option Command
search_made by_uid returns known keys = let s : Search = record { by_uid = by_uid; returns = returns; known_charset = known; keys = keys } in Some (say.Search s)

search_keys : Bool → Option SearchReturns → Bool × List ℕ → Option Command
search_keys by_uid returns charset = keys_in charset.1 >>= search_made by_uid returns charset.0

search_next : Bool → Option SearchReturns × List ℕ → Option Command
search_next by_uid returns = charset_at returns.1 >>= search_keys by_uid returns.0

charset_read : List ℕ × List ℕ → Option (Bool × List ℕ)
charset_read name = past_gap name.1 >>= (λ rest. Some (is_known_charset name.0, rest))

-- ---- charsets

CharsetNamed : List ℕ → List ℕ → Type 0
CharsetNamed name = Joined (Keyword (codes "CHARSET")) (Joined Gap (Joined (Name name) Gap))

-- a charset, and what follows it
named_again : (name text after : List ℕ) → CharsetNamed name text → Stops is_space after
    → charset_at (text ++ after) ≡ Some (is_known_charset name, after)
unfolding CharsetNamed charset_read
named_again name text after q s =
    let r = q.second in
    let n = r.second in
    let tail : List ℕ = n.back ++ after in
    let whole : text ++ after ≡ q.front ++ (r.front ++ (n.front ++ tail)) =
    ap (λ l. l ++ after) (q.parts ∙ ap (λ l. q.front ++ l) (r.parts ∙ ap (λ l. r.front ++ l) n.parts))
    ∙ append_assoc q.front (r.front ++ (n.front ++ n.back)) after
    ∙ ap (λ l. q.front ++ l) (append_assoc r.front (n.front ++ n.back) after ∙ ap (λ l. r.front ++ l) (append_assoc n.front n.back after)) in
    let named : Joined (Name name) (Joined Gap (Exactly after)) (n.front ++ tail) =
    record {
      front = n.front;
      back = tail;
      parts = refl;
      first = n.first;
      second = record { front = n.back; back = after; parts = refl; first = n.second; second = refl };
    } in
    let k = name_read name (Joined Gap (Exactly after)) (n.front ++ tail) named (gap_first (Exactly after) tail named.second) in
    let word = key_front words.Charset q.front q.first in
    ap charset_at whole
    ∙ ap (λ (c : List ℕ × List ℕ). charset_or (key_word_of c.0) c.1 (q.front ++ (r.front ++ (n.front ++ tail))))
    (key_word_back q.front (r.front ++ (n.front ++ tail)) word.1 (gap_ends r.front (n.front ++ tail) r.first))
    ∙ ap (λ o. charset_or o (r.front ++ (n.front ++ tail)) (q.front ++ (r.front ++ (n.front ++ tail)))) (word_again words.Charset q.front q.first)
    ∙ ap (λ o. o >>= (λ start. string_at is_atom start >>= charset_read)) (gap_again r.front (n.front ++ tail) r.first k.1)
    ∙ ap (λ o. o >>= charset_read) k.0
    ∙ ap (λ o. o >>= (λ rest. let read : Bool × List ℕ = (is_known_charset name, rest) in Some read)) (gap_again n.back after n.second s)

none_named : (o : Option KeyWord) (rest bytes : List ℕ) → (o ≡ Some words.Charset → ⊥) → charset_or o rest bytes ≡ Some (true, bytes)
none_named None rest bytes f = refl
none_named (Some words.Charset) rest bytes f = absurd (f refl)
none_named (Some words.All) rest bytes f = refl
none_named (Some w) rest bytes f = refl

charset_again : (known : Bool) (key : Key) (text after : List ℕ) → CharsetIs known text → Stops is_space after → keys_in after ≡ Some key
    → charset_at (text ++ after) ≡ Some (known, after)
unfolding CharsetNamed
charset_again known key text after (inl (e, h)) s k =
    let pair : Bool → Option (Bool × List ℕ) = λ t. Some (t, after) in
    ap (λ l. charset_at (l ++ after)) h
    ∙ none_named (key_word_of (key_word_at after).0) (key_word_at after).1 after (λ c. keys_no_charset key after k c)
    ∙ ap pair (sym e)
charset_again known key text after (inr (name, e, q)) s k =
    let pair : Bool → Option (Bool × List ℕ) = λ t. Some (t, after) in
    named_again name text after q s ∙ ap pair e

charset_stops : (known : Bool) (front back text : List ℕ) → text ≡ front ++ back → CharsetIs known front
    → Stops is_space back → Stops is_space text
charset_stops known front back text e (inl (t, h)) s = subst (Stops is_space) (sym (e ∙ ap (λ l. l ++ back) h)) s
charset_stops known front back text e (inr (name, t, q)) s =
    let whole : text ≡ q.front ++ (q.back ++ back) = e ∙ ap (λ l. l ++ back) q.parts ∙ append_assoc q.front q.back back in
    subst (Stops is_space) (sym whole) (starts _ no_space q.front (q.back ++ back) (key_front words.Charset q.front q.first))

-- neither a charset nor keys begin with RETURN

named_word : (name text after : List ℕ) → CharsetNamed name text → key_word_of (key_word_at (text ++ after)).0 ≡ Some words.Charset
unfolding CharsetNamed
named_word name text after q =
    let r = q.second in
    let behind : List ℕ = r.front ++ (r.back ++ after) in
    ap (λ l. key_word_of (key_word_at l).0) (three_parts (Keyword (codes "CHARSET")) Gap (Joined (Name name) Gap) text after q)
    ∙ ap (λ (c : List ℕ × List ℕ). key_word_of c.0) (key_word_back q.front behind (key_front words.Charset q.front q.first).1 (gap_ends r.front (r.back ++ after) r.first))
    ∙ word_again words.Charset q.front q.first

charset_no_return : (known : Bool) (key : Key) (text after : List ℕ) → CharsetIs known text → keys_in after ≡ Some key
    → key_word_of (key_word_at (text ++ after)).0 ≡ Some words.Return → ⊥
unfolding CharsetNamed
charset_no_return known key text after (inl (e, h)) k c = keys_no_return key after k (ap (λ l. key_word_of (key_word_at (l ++ after)).0) (sym h) ∙ c)
charset_no_return known key text after (inr (name, e, q)) k c =
    let both : Some words.Charset ≡ Some words.Return = sym (named_word name text after q) ∙ c in cc

pub search_again : (s : Search) (rest : List ℕ) → SearchIs s rest → search_at s.by_uid rest ≡ Some (say.Search s)
unfolding search_made search_keys search_next
search_again s rest q =
    let r = q.second in
    let c = r.second in
    let k = c.second in
    let keys : keys_in c.back ≡ Some s.keys = ap keys_in k.parts ∙ keys_in_again s.keys k.front k.back k.first k.second in
    let begun : Stops is_space c.back = subst (Stops is_space) (sym k.parts) (keys_begun s.keys k.front k.back k.first) in
    let charset : charset_at r.back ≡ Some (s.known_charset, c.back) =
    ap charset_at c.parts ∙ charset_again s.known_charset s.keys c.front c.back c.first begun keys in
    let stops : Stops is_space r.back = charset_stops s.known_charset c.front c.back r.back c.parts c.first begun in
    let never : key_word_of (key_word_at r.back).0 ≡ Some words.Return → ⊥ =
    λ h. charset_no_return s.known_charset s.keys c.front c.back c.first keys (ap (λ l. key_word_of (key_word_at l).0) (sym c.parts) ∙ h) in
    let returns : returns_at q.back ≡ Some (s.returns, r.back) = ap returns_at r.parts ∙ returns_again s.returns r.front r.back r.first stops never in
    ap (λ o. o >>= (λ start. returns_at start >>= search_next s.by_uid)) (past _ rest q (returns_stop s.returns r.front r.back q.back r.parts r.first stops))
    ∙ ap (λ o. o >>= search_next s.by_uid) returns
    ∙ ap (λ o. o >>= search_keys s.by_uid s.returns) charset
    ∙ ap (λ o. o >>= search_made s.by_uid s.returns s.known_charset) keys

record FoundCharset (known : Bool) (bytes rest : List ℕ) : Type 0 where
  text : List ℕ
  parts : bytes ≡ text ++ rest
  is : CharsetIs known text

abbrev some_charset : Bool → List ℕ → Option (Bool × List ℕ)
some_charset known rest = Some (known, rest)

no_charset : (known : Bool) (bytes rest : List ℕ) → some_charset true bytes ≡ some_charset known rest → FoundCharset known bytes rest
no_charset known bytes rest e =
    let a : Bool × List ℕ = (true, bytes) in
    let b : Bool × List ℕ = (known, rest) in
    let k : a ≡ b = inside a b e in
    subst (λ (p : Bool × List ℕ). FoundCharset p.0 bytes p.1) k (record { text = []; parts = refl; is = inl (refl, refl) })

charset_case : (o : Option KeyWord) (known : Bool) (bytes word after rest : List ℕ) → bytes ≡ word ++ after → key_word_of word ≡ o
    → charset_or o after bytes ≡ Some (known, rest) → FoundCharset known bytes rest
unfolding charset_read
charset_case None known bytes word after rest e w h = no_charset known bytes rest h
charset_case (Some words.Charset) known bytes word after rest e w h =
    let b : Bool × List ℕ = (known, rest) in
    let g = bind_some (past_gap after) (λ start. string_at is_atom start >>= charset_read) b h in
    let n = bind_some (string_at is_atom g.0) charset_read b g.2 in
    let p = bind_some (past_gap n.0.1) (λ rest. let read : Bool × List ℕ = (is_known_charset n.0.0, rest) in Some read) b n.2 in
    let i = gap_sound after g.0 g.1 in
    let s = string_sound is_atom refl g.0 n.0.0 n.0.1 n.1 in
    let j = gap_sound n.0.1 p.0 p.1 in
    let inner : List ℕ = i.gap ++ (s.text ++ j.gap) in
    let whole : bytes ≡ (word ++ inner) ++ p.0 =
    e
    ∙ ap (λ l. word ++ l) (i.parts ∙ ap (λ l. i.gap ++ l) (s.parts ∙ ap (λ l. s.text ++ l) j.parts ∙ sym (append_assoc s.text j.gap p.0))
    ∙ sym (append_assoc i.gap (s.text ++ j.gap) p.0))
    ∙ sym (append_assoc word inner p.0) in
    let a : Bool × List ℕ = (is_known_charset n.0.0, p.0) in
    subst (λ (x : Bool × List ℕ). FoundCharset x.0 bytes x.1) (inside a b p.2) (record {
      text = word ++ inner;
      parts = whole;
      is = inr (
        n.0.0,
        refl,
        record {
          front = word;
          back = inner;
          parts = refl;
          first = word_sound words.Charset word w;
          second = record {
            front = i.gap;
            back = s.text ++ j.gap;
            parts = refl;
            first = i.is;
            second = record { front = s.text; back = j.gap; parts = refl; first = s.is; second = j.is };
          };
        },
      );
    })
charset_case (Some words.All) known bytes word after rest e w h = no_charset known bytes rest h
charset_case (Some x) known bytes word after rest e w h = no_charset known bytes rest h

pub search_sound : (by_uid : Bool) (c : Command) (rest : List ℕ) → search_at by_uid rest ≡ Some c
    → (s : Search) × (s.by_uid ≡ by_uid) × (say.Search s ≡ c) × SearchIs s rest
unfolding search_made search_keys search_next
search_sound by_uid c rest e =
    let a = bind_some (past_gap rest) (λ start. returns_at start >>= search_next by_uid) c e in
    let r = bind_some (returns_at a.0) (search_next by_uid) c a.2 in
    let b = bind_some (charset_at r.0.1) (search_keys by_uid r.0.0) c r.2 in
    let d = bind_some (keys_in b.0.1) (search_made by_uid r.0.0 b.0.0) c b.2 in
    let s : Search = record { by_uid = by_uid; returns = r.0.0; known_charset = b.0.0; keys = d.0 } in
    let g = gap_sound rest a.0 a.1 in
    let v = returns_sound r.0.0 a.0 r.0.1 r.1 in
    let w = key_word_at r.0.1 in
    let f = charset_case (key_word_of w.0) b.0.0 r.0.1 w.0 w.1 b.0.1 (key_word_parts r.0.1) refl b.1 in
    let k = keys_in_sound d.0 b.0.1 d.1 in (
      s,
      refl,
      inside (say.Search s) c d.2,
      record {
        front = g.gap;
        back = a.0;
        parts = g.parts;
        first = g.is;
        second = record {
          front = v.text;
          back = r.0.1;
          parts = v.parts;
          first = v.is;
          second = record { front = f.text; back = b.0.1; parts = f.parts; first = f.is; second = k };
        };
      },
    )
