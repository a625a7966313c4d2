-- What is read is spelled by the grammar.
use Rattle.std.proofs.Common.{◌≡◌, ℕ, zero, suc, ◌+◌, ◌<◌, Bool, true, false, cond, List, [], ◌∷◌, ◌++◌, length, take, drop, refl, ap, sym, subst, ◌∙◌, arith, length-append, length-take, append_assoc, inl, inr, ◌⊎◌}
use Rattle.std.specs.Prelude.{Option, Some, None, ◌==◌, ◌&&◌, ◌||◌, not}
use Rattle.std.specs.List.{prefix_len}
use Rattle.std.specs.Option.{option_map}
use Rattle.std.proofs.lemmas.List.{take-append-drop, take_at}
use Rattle.std.proofs.lemmas.List.Sums.{prefix_len-le-length}
use Rattle.std.proofs.lemmas.Bool.Decides.{Decides-eqb, not_from_Decides}
use Rattle.envelope.specs.Values.{Address}
use Rattle.envelope.specs.Bytes.{is_text, is_atom, is_name, is_literal, is_quotable}
use Rattle.envelope.specs.Grammar.{Many, Some1, Quoted, end, plain, escaped, LocalPart, Domain, Hops, hop, Route, Spells, PathTo}
use Rattle.envelope.specs.Grammar as grammar
use Rattle.envelope.specs.Reading.{◌>>=◌, first_is, some_len, quoted_len, local_len, literal_len, domain_len, past_byte, past_domain, past_comma, next_hop, past_hops, past_all_hops, past_route, address_at, path_at}

-- ---- steps

pub bind_some : {A B : Type 0} (o : Option A) (f : A → Option B) (y : B) → (o >>= f) ≡ Some y → (x : A) × (o ≡ Some x) × (f x ≡ Some y)
bind_some (Some x) f y e = (x, refl, e)
bind_some None f y e = absurd cc

pub guard_some : {A : Type 0} (t : Bool) (x y : A) → cond t (Some x) None ≡ Some y → (t ≡ true) × (x ≡ y)
guard_some true x y e = (refl, cc)
guard_some false x y e = absurd cc

pub map_some : {A B : Type 0} (f : A → B) (o : Option A) (y : B) → option_map f o ≡ Some y → (x : A) × (o ≡ Some x) × (f x ≡ y)
map_some f (Some x) y e = (x, refl, cc)
map_some f None y e = absurd cc

pub either : {A : Type 0} (t : Bool) (x y z : A) → cond t x y ≡ z → ((t ≡ true) × (x ≡ z)) ⊎ ((t ≡ false) × (y ≡ z))
either true x y z e = inl (refl, e)
either false x y z e = inr (refl, e)

-- a part at the front
pub record Front (P : List ℕ → Type 0) (bytes rest : List ℕ) : Type 0 where
  pub text : List ℕ
  pub parts : bytes ≡ text ++ rest
  pub is : P text

-- ---- classes

one_more : (p : ℕ → Bool) (x : ℕ) (xs : List ℕ) (t : Bool) → p x ≡ t → Many p (take (prefix_len p xs) xs) → Many p (take (cond t (1 + prefix_len p xs) 0) (x ∷ xs))
one_more p x xs true e h =
    let k : 1 + prefix_len p xs ≡ suc (prefix_len p xs) = omega arith in
    subst (λ (m : ℕ). Many p (take m (x ∷ xs))) (sym k) (e, h)
one_more p x xs false e h = tt

pub many_taken : (p : ℕ → Bool) (xs : List ℕ) → Many p (take (prefix_len p xs) xs)
many_taken p [] = tt
many_taken p (x ∷ xs) = one_more p x xs (p x) refl (many_taken p xs)

none_or : (n m : ℕ) (t : Bool) → (n == 0) ≡ t → cond t None (Some n) ≡ Some m → (n ≡ m) × (0 < n)
none_or n m true e h = absurd cc
none_or n m false e h =
    let ne : n ≡ 0 → ⊥ = not_from_Decides (n == 0) (Decides-eqb n 0) e in
    (cc, omega arith)

pub some_sound : (p : ℕ → Bool) (bytes : List ℕ) (n : ℕ) → some_len p bytes ≡ Some n → Some1 p (take n bytes)
some_sound p bytes n e =
    let k = none_or (prefix_len p bytes) n (prefix_len p bytes == 0) refl e in
    let le = prefix_len-le-length p bytes in
    subst (λ (m : ℕ). Some1 p (take m bytes)) k.0 (omega (arith, k.1, length-take (prefix_len p bytes) bytes), many_taken p bytes)

-- ---- quoted strings

abbrev FoundQuoted : Bool → List ℕ → ℕ → Type 0
FoundQuoted false bytes n = (content : List ℕ) × (rest : List ℕ) × (bytes ≡ content ++ 34 ∷ rest) × Quoted content × (n ≡ length content + 1)
FoundQuoted true bytes n = (b : ℕ) × (content : List ℕ) × (rest : List ℕ) × (bytes ≡ b ∷ (content ++ 34 ∷ rest)) × (is_text b ≡ true) × Quoted content × (n ≡ length content + 2)

text_case : (t : Bool) (o : Option ℕ) (n : ℕ) → cond t (option_map suc o) None ≡ Some n → (t ≡ true) × ((m : ℕ) × (o ≡ Some m) × (suc m ≡ n))
text_case false o n e = absurd cc
text_case true None n e = absurd cc
text_case true (Some m) n e = (refl, (m, refl, cc))

quotable : (b : ℕ) → is_text b ≡ true → (b == 92) ≡ false → (b == 34) ≡ false → is_quotable b ≡ true
quotable b t k q =
    ap (λ (u : Bool). u && not ((b == 92) || ((b == 34) || false))) t
    ∙ ap (λ (u : Bool). not (u || ((b == 34) || false))) k
    ∙ ap (λ (u : Bool). not (u || false)) q

backslash : (b : ℕ) (bs : List ℕ) (m n : ℕ) (t : Bool) → (b == 92) ≡ t → is_text b ≡ true → (b == 34) ≡ false → suc m ≡ n
    → FoundQuoted t bs m → FoundQuoted false (b ∷ bs) n
backslash b bs m n true e t q s f =
    let is : b ≡ 92 = (Decides-eqb b 92).0 e in
    (92 ∷ f.0 ∷ f.1, f.2, ap (λ (x : ℕ). x ∷ bs) is ∙ ap (λ (l : List ℕ). 92 ∷ l) f.3, escaped f.4 f.5, omega (arith, f.6))
backslash b bs m n false e t q s f =
    (b ∷ f.0, f.1, ap (λ (l : List ℕ). b ∷ l) f.2, plain (quotable b t e q) f.3, omega (arith, f.4))

pub quoted_sound : (e : Bool) (bytes : List ℕ) (n : ℕ) → quoted_len e bytes ≡ Some n → FoundQuoted e bytes n
quoted_sound true [] n h = absurd cc
quoted_sound false [] n h = absurd cc
quoted_sound true (b ∷ bs) n h =
    let k = text_case (is_text b) (quoted_len false bs) n h in
    let f = quoted_sound false bs k.1.0 k.1.1 in
    (b, f.0, f.1, ap (λ (l : List ℕ). b ∷ l) f.2, k.0, f.3, omega (arith, f.4, k.1.2))
quoted_sound false (b ∷ bs) n h =
    elim (either (b == 34) (Some 1) (cond (is_text b) (option_map suc (quoted_len (b == 92) bs)) None) (Some n) h) [
      | inl q ↦
          let is : b ≡ 34 = (Decides-eqb b 34).0 q.0 in
          let one : 1 ≡ n = cc in
          ([], bs, ap (λ (x : ℕ). x ∷ bs) is, end, sym one)
      | inr q ↦
          let k = text_case (is_text b) (quoted_len (b == 92) bs) n q.1 in
          backslash b bs k.1.0 n (b == 92) refl k.0 q.0 k.1.2 (quoted_sound (b == 92) bs k.1.0 k.1.1)
    ]

-- ---- tokens

taken : (P : List ℕ → Type 0) (n : ℕ) (bytes : List ℕ) → P (take n bytes) → Front P bytes (drop n bytes)
taken P n bytes h = record { text = take n bytes; parts = sym (take-append-drop n bytes); is = h }

first_at : (c x : ℕ) (xs : List ℕ) → first_is c (x ∷ xs) ≡ true → x ≡ c
first_at c x xs e = (Decides-eqb x c).0 e

pub first_cons : (c : ℕ) (l : List ℕ) → first_is c l ≡ true → l ≡ c ∷ drop 1 l
first_cons c [] e = absurd cc
first_cons c (x ∷ xs) e = ap (λ (y : ℕ). y ∷ xs) (first_at c x xs e)

pub byte_sound : (c : ℕ) (bytes r : List ℕ) → past_byte c bytes ≡ Some r → bytes ≡ c ∷ r
byte_sound c bytes r e =
    let g = guard_some (first_is c bytes) (drop 1 bytes) r e in
    first_cons c bytes g.0 ∙ ap (λ (l : List ℕ). c ∷ l) g.1

-- a text in brackets at the front
take_between : (c x d : ℕ) (xs content rest : List ℕ) (m n : ℕ) → x ≡ c → xs ≡ content ++ d ∷ rest → m ≡ length content + 1 → suc m ≡ n
    → take n (x ∷ xs) ≡ c ∷ (content ++ d ∷ [])
take_between c x d xs content rest m n p q r s =
    let k : length (content ++ d ∷ []) ≡ m = omega (arith, length-append content (d ∷ [])) in
    let whole : xs ≡ (content ++ d ∷ []) ++ rest = q ∙ sym (append_assoc content (d ∷ []) rest) in
    let inner : take m xs ≡ content ++ d ∷ [] = ap (take m) whole ∙ take_at (content ++ d ∷ []) rest m k in
    ap (λ (j : ℕ). take j (x ∷ xs)) (sym s) ∙ ap (λ (l : List ℕ). x ∷ l) inner ∙ ap (λ (y : ℕ). y ∷ (content ++ d ∷ [])) p

in_quotes : (content : List ℕ) → Quoted content → LocalPart (34 ∷ (content ++ 34 ∷ []))
in_quotes content q = inl (record {
  front = 34 ∷ [];
  back = content ++ 34 ∷ [];
  parts = refl;
  first = refl;
  second = record { front = content; back = 34 ∷ []; parts = refl; first = q; second = refl };
})

in_brackets : (content : List ℕ) → Some1 is_literal content → Domain (91 ∷ (content ++ 93 ∷ []))
in_brackets content q = inr (record {
  front = 91 ∷ [];
  back = content ++ 93 ∷ [];
  parts = refl;
  first = refl;
  second = record { front = content; back = 93 ∷ []; parts = refl; first = q; second = refl };
})

pub local_sound : (bytes : List ℕ) (n : ℕ) → local_len bytes ≡ Some n → LocalPart (take n bytes)
local_sound [] n e = absurd cc
local_sound (x ∷ xs) n e =
    elim (either (x == 34) (option_map suc (quoted_len false xs)) (some_len is_atom (x ∷ xs)) (Some n) e) [
      | inl q ↦
          let m = map_some suc (quoted_len false xs) n q.1 in
          let f = quoted_sound false xs m.0 m.1 in
          subst LocalPart (sym (take_between 34 x 34 xs f.0 f.1 m.0 n ((Decides-eqb x 34).0 q.0) f.2 f.4 m.2)) (in_quotes f.0 f.3)
      | inr q ↦ inr (some_sound is_atom (x ∷ xs) n q.1)
    ]

literal_sound : (bytes : List ℕ) (n : ℕ) → literal_len bytes ≡ Some n
    → (content : List ℕ) × (rest : List ℕ) × (bytes ≡ content ++ 93 ∷ rest) × Some1 is_literal content × (n ≡ length content + 1)
literal_sound bytes n e =
    let b = bind_some (some_len is_literal bytes) (λ k. cond (first_is 93 (drop k bytes)) (Some (suc k)) None) n e in
    let g = guard_some (first_is 93 (drop b.0 bytes)) (suc b.0) n b.2 in
    let k = none_or (prefix_len is_literal bytes) b.0 (prefix_len is_literal bytes == 0) refl b.1 in
    let le = prefix_len-le-length is_literal bytes in
    let len : length (take b.0 bytes) ≡ b.0 = omega (arith, k.0, length-take b.0 bytes) in (
      take b.0 bytes,
      drop 1 (drop b.0 bytes),
      sym (take-append-drop b.0 bytes) ∙ ap (λ (l : List ℕ). take b.0 bytes ++ l) (first_cons 93 (drop b.0 bytes) g.0),
      some_sound is_literal bytes b.0 b.1,
      omega (arith, g.1),
    )

pub domain_sound : (bytes : List ℕ) (n : ℕ) → domain_len bytes ≡ Some n → Domain (take n bytes)
domain_sound [] n e = absurd cc
domain_sound (x ∷ xs) n e =
    elim (either (x == 91) (option_map suc (literal_len xs)) (some_len is_name (x ∷ xs)) (Some n) e) [
      | inl q ↦
          let m = map_some suc (literal_len xs) n q.1 in
          let f = literal_sound xs m.0 m.1 in
          subst Domain (sym (take_between 91 x 93 xs f.0 f.1 m.0 n ((Decides-eqb x 91).0 q.0) f.2 f.4 m.2)) (in_brackets f.0 f.3)
      | inr q ↦ inl (some_sound is_name (x ∷ xs) n q.1)
    ]

-- ---- addresses

spelled : (bytes mid : List ℕ) (n m : ℕ) → drop n bytes ≡ 64 ∷ mid → LocalPart (take n bytes) → Domain (take m mid)
    → Front (Spells (record { local = take n bytes; domain = take m mid })) bytes (drop m mid)
spelled bytes mid n m e l d = record {
  text = take n bytes ++ 64 ∷ take m mid;
  parts =
      sym (take-append-drop n bytes)
      ∙ ap (λ (t : List ℕ). take n bytes ++ t) (e ∙ ap (λ (t : List ℕ). 64 ∷ t) (sym (take-append-drop m mid)))
      ∙ sym (append_assoc (take n bytes) (64 ∷ take m mid) (drop m mid));
  is = record { parts = sym (append_assoc (take n bytes) (64 ∷ []) (take m mid)); local = l; domain = d };
}

pub address_sound : (bytes : List ℕ) (a : Address) (rest : List ℕ) → address_at bytes ≡ Some (a, rest) → Front (Spells a) bytes rest
address_sound bytes a rest e =
    let third : ℕ → List ℕ → ℕ → Option (Address × List ℕ) = λ k r j. Some (record { local = take k bytes; domain = take j r }, drop j r) in
    let one = bind_some (local_len bytes) (λ k. past_byte 64 (drop k bytes) >>= (λ r. domain_len r >>= third k r)) (a, rest) e in
    let two = bind_some (past_byte 64 (drop one.0 bytes)) (λ r. domain_len r >>= third one.0 r) (a, rest) one.2 in
    let three = bind_some (domain_len two.0) (third one.0 two.0) (a, rest) two.2 in
    let found : Address × List ℕ = (record { local = take one.0 bytes; domain = take three.0 two.0 }, drop three.0 two.0) in
    let same : found ≡ (a, rest) = cc in
    subst (λ (x : Address × List ℕ). Front (Spells x.0) bytes x.1) same
    (spelled bytes two.0 one.0 three.0 (byte_sound 64 (drop one.0 bytes) two.0 two.1) (local_sound bytes one.0 one.1) (domain_sound two.0 three.0 three.1))

-- ---- routes

pub past_domain_sound : (bytes rest : List ℕ) → past_domain bytes ≡ Some rest → Front Domain bytes rest
past_domain_sound bytes rest e =
    let b = bind_some (domain_len bytes) (λ n. Some (drop n bytes)) rest e in
    let same : drop b.0 bytes ≡ rest = cc in
    subst (Front Domain bytes) same (taken Domain b.0 bytes (domain_sound bytes b.0 b.1))

one_hop_more : (bytes start mid rest : List ℕ) → bytes ≡ 44 ∷ 64 ∷ start → Front Domain start mid → Front Hops mid rest → Front Hops bytes rest
one_hop_more bytes start mid rest e d h = record {
  text = 44 ∷ 64 ∷ (d.text ++ h.text);
  parts = e ∙ ap (λ (t : List ℕ). 44 ∷ 64 ∷ t) (d.parts ∙ ap (λ (t : List ℕ). d.text ++ t) h.parts ∙ sym (append_assoc d.text h.text rest));
  is = hop d.text h.text refl d.is h.is;
}

comma_sound : (bytes start : List ℕ) → past_comma bytes ≡ Some start → bytes ≡ 44 ∷ 64 ∷ start
comma_sound bytes start e =
    let b = bind_some (past_byte 44 bytes) (past_byte 64) start e in
    byte_sound 44 bytes b.0 b.1 ∙ ap (λ (t : List ℕ). 44 ∷ t) (byte_sound 64 b.0 start b.2)

next_sound : (o : Option (List ℕ)) (f : List ℕ → Option (List ℕ)) (bytes rest : List ℕ) → past_comma bytes ≡ o → next_hop o f bytes ≡ Some rest
    → ((b : List ℕ) → f b ≡ Some rest → Front Hops b rest) → Front Hops bytes rest
next_sound None f bytes rest e h again =
    let same : bytes ≡ rest = cc in
    record { text = []; parts = same; is = grammar.end }
next_sound (Some start) f bytes rest e h again =
    let b = bind_some (past_domain start) f rest h in
    one_hop_more bytes start b.0 rest (comma_sound bytes start e) (past_domain_sound start b.0 b.1) (again b.0 b.2)

hops_sound : (n : ℕ) (bytes rest : List ℕ) → past_hops n bytes ≡ Some rest → Front Hops bytes rest
unfolding past_hops
hops_sound zero bytes rest e = absurd cc
hops_sound (suc n) bytes rest e = next_sound (past_comma bytes) (past_hops n) bytes rest refl e (λ b k. hops_sound n b rest k)

pub all_hops_sound : (bytes rest : List ℕ) → past_all_hops bytes ≡ Some rest → Front Hops bytes rest
unfolding past_all_hops
all_hops_sound bytes rest e = hops_sound (suc (length bytes)) bytes rest e

routed : (bytes a b rest : List ℕ) → first_is 64 bytes ≡ true → Front Domain (drop 1 bytes) a → Front Hops a b → b ≡ 58 ∷ rest → Front Route bytes rest
routed bytes a b rest e d h c = record {
  text = 64 ∷ (d.text ++ (h.text ++ 58 ∷ []));
  parts =
      first_cons 64 bytes e
      ∙ ap (λ (t : List ℕ). 64 ∷ t) (d.parts ∙ ap (λ (t : List ℕ). d.text ++ t) (h.parts ∙ ap (λ (t : List ℕ). h.text ++ t) c))
      ∙ simp append_assoc;
  is = inr (record {
    front = 64 ∷ [];
    back = d.text ++ (h.text ++ 58 ∷ []);
    parts = refl;
    first = refl;
    second = record {
      front = d.text;
      back = h.text ++ 58 ∷ [];
      parts = refl;
      first = d.is;
      second = record { front = h.text; back = 58 ∷ []; parts = refl; first = h.is; second = refl };
    };
  });
}

pub route_sound : (bytes rest : List ℕ) → past_route bytes ≡ Some rest → Front Route bytes rest
route_sound bytes rest e =
    elim (either (first_is 64 bytes) (past_domain (drop 1 bytes) >>= past_all_hops >>= past_byte 58) (Some bytes) (Some rest) e) [
      | inl q ↦
          let outer = bind_some (past_domain (drop 1 bytes) >>= past_all_hops) (past_byte 58) rest q.1 in
          let inner = bind_some (past_domain (drop 1 bytes)) past_all_hops outer.0 outer.1 in
          routed bytes inner.0 outer.0 rest q.0 (past_domain_sound (drop 1 bytes) inner.0 inner.1) (all_hops_sound inner.0 outer.0 inner.2) (byte_sound 58 outer.0 rest outer.2)
      | inr q ↦
          let same : bytes ≡ rest = cc in
          record { text = []; parts = same; is = inl refl }
    ]

-- ---- paths

bracketed : (a : Address) (bytes inner start after rest : List ℕ) → bytes ≡ 60 ∷ inner → Front Route inner start → Front (Spells a) start after → after ≡ 62 ∷ rest
    → Front (PathTo a) bytes rest
bracketed a bytes inner start after rest e r s c = record {
  text = 60 ∷ (r.text ++ (s.text ++ 62 ∷ []));
  parts = e ∙ ap (λ (t : List ℕ). 60 ∷ t) (r.parts ∙ ap (λ (t : List ℕ). r.text ++ t) (s.parts ∙ ap (λ (t : List ℕ). s.text ++ t) c)) ∙ simp append_assoc;
  is = record {
    front = 60 ∷ [];
    back = r.text ++ (s.text ++ 62 ∷ []);
    parts = refl;
    first = refl;
    second = record {
      front = r.text;
      back = s.text ++ 62 ∷ [];
      parts = refl;
      first = r.is;
      second = record { front = s.text; back = 62 ∷ []; parts = refl; first = s.is; second = refl };
    };
  };
}

pub path_sound : (bytes : List ℕ) (a : Address) (rest : List ℕ) → path_at bytes ≡ Some (a, rest) → Front (PathTo a) bytes rest
path_sound bytes a rest e =
    let last : Address × List ℕ → Option (Address × List ℕ) = λ x. past_byte 62 x.1 >>= (λ t. Some (x.0, t)) in
    let one = bind_some (past_byte 60 bytes) (λ inner. past_route inner >>= (λ start. address_at start >>= last)) (a, rest) e in
    let two = bind_some (past_route one.0) (λ start. address_at start >>= last) (a, rest) one.2 in
    let three = bind_some (address_at two.0) last (a, rest) two.2 in
    let four = bind_some (past_byte 62 three.0.1) (λ t. Some (three.0.0, t)) (a, rest) three.2 in
    let found : Address × List ℕ = (three.0.0, four.0) in
    let same : found ≡ (a, rest) = cc in
    subst (λ (x : Address × List ℕ). Front (PathTo x.0) bytes x.1) same
    (bracketed three.0.0 bytes one.0 two.0 three.0.1 four.0 (byte_sound 60 bytes one.0 one.1) (route_sound one.0 two.0 two.1)
    (address_sound two.0 three.0.0 three.0.1 three.1) (byte_sound 62 three.0.1 four.0 four.1))
