-- A line of a form is read as that form.
use Rattle.std.proofs.Common.{◌≡◌, ℕ, suc, ◌<◌, ◌≤◌, Bool, true, false, cond, List, [], ◌∷◌, ◌++◌, length, take, drop, refl, ap, sym, ◌∙◌, arith, lit≤, append_assoc, inl, inr, ◌⊎◌}
use Rattle.std.specs.Prelude.{Option, Some, None, ◌==◌, ◌||◌, not, codes, map}
use Rattle.std.specs.List.{AllByRecursion}
use Rattle.std.specs.Option.{option_map}
use Rattle.std.specs.Char.{to_ascii_lowercase}
use Rattle.std.specs.Str.{str_eq_ignore_ascii_case as is_same}
use Rattle.std.proofs.lemmas.Bool.{cases_lt}
use Rattle.std.proofs.lemmas.Bool.Decides.{Decides-eqb, nat_tests}
use Rattle.std.proofs.lemmas.List.{drop_at, take-append-drop, length-map}
use Rattle.std.proofs.lemmas.Str.Ascii.{lowercase_is}
use Rattle.envelope.proofs.Case.{decides_false, is_same_decides}
use Rattle.envelope.proofs.Tokens.{some_again}
use Rattle.envelope.proofs.Paths.{path_again, keyword_again}
use Rattle.envelope.proofs.Sound.{guard_some, Front}
use Rattle.envelope.proofs.Words.{is_both}
use Rattle.envelope.specs.Values.{Address, Path, Null, Postmaster, To}
use Rattle.envelope.specs.Bytes.{is_in, is_graphic, is_atom}
use Rattle.envelope.specs.Grammar.{Keyword, Many, ForwardPath}
use Rattle.envelope.specs.Reading.{◌>>=◌, quoted_len, domain_len, past_domain, past_all_hops, past_byte, past_route, address_at, local_len, some_len, path_at, path_to, past_keyword, or_path, forward_at}

-- ---- letters

lower_letter : (x c : ℕ) → to_ascii_lowercase x ≡ c → 97 ≤ c → c ≤ 122 → ((65 ≤ x) × (x ≤ 90)) ⊎ ((97 ≤ x) × (x ≤ 122))
lower_letter x c e lo hi =
    elim (cases_lt x 65) [
      | inl lt ↦ let k = (lowercase_is x).1 lt in absurd (omega (arith, k, e))
      | inr ge ↦ elim (cases_lt 90 x) [
        | inl lt ↦ let k = (lowercase_is x).2 lt in inr (omega (arith, k, e), omega (arith, k, e))
        | inr le ↦ inl (omega arith, omega arith)
      ]
    ]

lower_other : (x c : ℕ) → to_ascii_lowercase x ≡ c → c < 65 → x ≡ c
lower_other x c e lt =
    elim (cases_lt x 65) [
      | inl below ↦ sym ((lowercase_is x).1 below) ∙ e
      | inr ge ↦ elim (cases_lt 90 x) [
        | inl above ↦ sym ((lowercase_is x).2 above) ∙ e
        | inr le ↦ let k = (lowercase_is x).0 (omega arith, omega arith) in absurd (omega (arith, k, e))
      ]
    ]

in_none : (l : List ℕ) (x : ℕ) → AllByRecursion (λ y. x ≡ y → ⊥) l → is_in l x ≡ false
in_none [] x h = refl
in_none (y ∷ ys) x h = ap (λ (t : Bool). t || is_in ys x) (decides_false (x == y) (Decides-eqb x y) h.0) ∙ in_none ys x h.1

graphic_is : (x : ℕ) → 33 ≤ x → x ≤ 126 → is_graphic x ≡ true
graphic_is x lo hi = grind (arith, nat_tests)

upper_atom : (x : ℕ) → 65 ≤ x → x ≤ 90 → is_atom x ≡ true
upper_atom x lo hi =
    is_both (is_graphic x) (not (is_in (codes "<>()[]\\,:;@\"") x)) (graphic_is x (omega arith) (omega arith))
    (ap not (in_none (codes "<>()[]\\,:;@\"") x
    ((λ e. omega arith), ((λ e. omega arith), ((λ e. omega arith), ((λ e. omega arith), ((λ e. omega arith), ((λ e. omega arith), ((λ e. omega arith), ((λ e. omega arith), ((λ e. omega arith), ((λ e. omega arith), ((λ e. omega arith), ((λ e. omega arith), tt))))))))))))))

lower_atom : (x : ℕ) → 97 ≤ x → x ≤ 122 → is_atom x ≡ true
lower_atom x lo hi =
    is_both (is_graphic x) (not (is_in (codes "<>()[]\\,:;@\"") x)) (graphic_is x (omega arith) (omega arith))
    (ap not (in_none (codes "<>()[]\\,:;@\"") x
    ((λ e. omega arith), ((λ e. omega arith), ((λ e. omega arith), ((λ e. omega arith), ((λ e. omega arith), ((λ e. omega arith), ((λ e. omega arith), ((λ e. omega arith), ((λ e. omega arith), ((λ e. omega arith), ((λ e. omega arith), ((λ e. omega arith), tt))))))))))))))

letter_atom : (x c : ℕ) → to_ascii_lowercase x ≡ c → 97 ≤ c → c ≤ 122 → is_atom x ≡ true
letter_atom x c e lo hi = elim (lower_letter x c e lo hi) [ inl h ↦ upper_atom x h.0 h.1 | inr h ↦ lower_atom x h.0 h.1 ]

abbrev AreLetters : List ℕ → Type 0
AreLetters = AllByRecursion (λ c. (97 ≤ c) × (c ≤ 122))

letters_atom : (l low : List ℕ) → map to_ascii_lowercase l ≡ low → AreLetters low → Many is_atom l
letters_atom [] low e h = tt
letters_atom (x ∷ xs) [] e h = absurd cc
letters_atom (x ∷ xs) (c ∷ cs) e h =
    let one : to_ascii_lowercase x ≡ c = cc in
    let others : map to_ascii_lowercase xs ≡ cs = cc in
    (letter_atom x c one h.0.0 h.0.1, letters_atom xs cs others h.1)

map_parts : (l a b : List ℕ) → map to_ascii_lowercase l ≡ a ++ b
    → (x : List ℕ) × (y : List ℕ) × (l ≡ x ++ y) × (map to_ascii_lowercase x ≡ a) × (map to_ascii_lowercase y ≡ b)
map_parts l [] b e = ([], l, refl, refl, e)
map_parts [] (c ∷ a) b e = absurd cc
map_parts (x ∷ xs) (c ∷ a) b e =
    let one : to_ascii_lowercase x ≡ c = cc in
    let others : map to_ascii_lowercase xs ≡ a ++ b = cc in
    let k = map_parts xs a b others in
    (x ∷ k.0, k.1, ap (λ (t : List ℕ). x ∷ t) k.2, cc, k.4)

single : (y : List ℕ) (c : ℕ) → map to_ascii_lowercase y ≡ c ∷ [] → c < 65 → y ≡ c ∷ []
single [] c e lt = absurd cc
single (x ∷ []) c e lt =
    let one : to_ascii_lowercase x ≡ c = cc in
    ap (λ (z : ℕ). z ∷ []) (lower_other x c one lt)
single (x ∷ z ∷ zs) c e lt = absurd cc

-- ---- <postmaster> begins no path with an address

no_at : (letters rest : List ℕ) → Many is_atom letters → 0 < length letters → address_at (letters ++ 62 ∷ rest) ≡ None
no_at [] rest h n = absurd (omega arith)
no_at (x ∷ xs) rest h n =
    let bytes = (x ∷ xs) ++ 62 ∷ rest in
    let quote : (x == 34) ≡ false = decides_false (x == 34) (Decides-eqb x 34) (λ (e : x ≡ 34). let both : is_atom x ≡ is_atom 34 = ap is_atom e in let yes : is_atom x ≡ true = h.0 in cc) in
    let len : local_len bytes ≡ Some (length (x ∷ xs)) =
    ap (λ (t : Bool). cond t (option_map suc (quoted_len false (xs ++ 62 ∷ rest))) (some_len is_atom bytes)) quote ∙ some_again is_atom (x ∷ xs) (62 ∷ rest) (n, h) refl in
    ap (λ (o : Option ℕ). o >>= (λ k. past_byte 64 (drop k bytes) >>= (λ r. domain_len r >>= (λ j. Some (record { local = take k bytes; domain = take j r }, drop j r))))) len
    ∙ ap (λ (l : List ℕ). past_byte 64 l >>= (λ r. domain_len r >>= (λ j. Some (record { local = take (length (x ∷ xs)) bytes; domain = take j r }, drop j r)))) (drop_at (x ∷ xs) (62 ∷ rest) (length (x ∷ xs)) refl)

no_route : (letters rest : List ℕ) → Many is_atom letters → 0 < length letters → past_route (letters ++ rest) ≡ Some (letters ++ rest)
no_route [] rest h n = absurd (omega arith)
no_route (x ∷ xs) rest h n =
    let other : (x == 64) ≡ false = decides_false (x == 64) (Decides-eqb x 64) (λ (e : x ≡ 64). let both : is_atom x ≡ is_atom 64 = ap is_atom e in let yes : is_atom x ≡ true = h.0 in cc) in
    ap (λ (t : Bool). cond t (past_domain (xs ++ rest) >>= past_all_hops >>= past_byte 58) (Some (x ∷ (xs ++ rest)))) other

no_path : (letters rest : List ℕ) → Many is_atom letters → 0 < length letters → path_at (60 ∷ (letters ++ 62 ∷ rest)) ≡ None
no_path letters rest h n =
    ap (λ (o : Option (List ℕ)). o >>= (λ start. address_at start >>= (λ x. past_byte 62 x.1 >>= (λ t. Some (x.0, t))))) (no_route letters (62 ∷ rest) h n)
    ∙ ap (λ (o : Option (Address × List ℕ)). o >>= (λ x. past_byte 62 x.1 >>= (λ t. Some (x.0, t)))) (no_at letters rest h n)

postmaster_letters : AreLetters (codes "postmaster")
postmaster_letters = ((lit≤ tt, lit≤ tt), ((lit≤ tt, lit≤ tt), ((lit≤ tt, lit≤ tt), ((lit≤ tt, lit≤ tt), ((lit≤ tt, lit≤ tt), ((lit≤ tt, lit≤ tt), ((lit≤ tt, lit≤ tt), ((lit≤ tt, lit≤ tt), ((lit≤ tt, lit≤ tt), ((lit≤ tt, lit≤ tt), tt))))))))))

postmaster_no_path : (text rest : List ℕ) → Keyword (codes "<postmaster>") text → path_at (text ++ rest) ≡ None
postmaster_no_path text rest h =
    let one = map_parts text (60 ∷ []) (codes "postmaster>") h in
    let two = map_parts one.1 (codes "postmaster") (62 ∷ []) one.4 in
    let len : length two.0 ≡ 10 = sym (length-map two.0 to_ascii_lowercase) ∙ ap length two.3 in
    let whole : text ++ rest ≡ 60 ∷ (two.0 ++ 62 ∷ rest) =
    ap (λ (t : List ℕ). t ++ rest) (one.2 ∙ ap (λ (t : List ℕ). t ++ one.1) (single one.0 60 one.3 (omega arith))
    ∙ ap (λ (t : List ℕ). 60 ∷ t) (two.2 ∙ ap (λ (t : List ℕ). two.0 ++ t) (single two.1 62 two.4 (omega arith)))) ∙ simp append_assoc in
    ap path_at whole ∙ no_path two.0 rest (letters_atom two.0 (codes "postmaster") two.3 postmaster_letters) (omega (arith, len))

pub keyword_sound : (word bytes rest : List ℕ) → past_keyword word bytes ≡ Some rest → Front (Keyword word) bytes rest
keyword_sound word bytes rest e =
    let g = guard_some (is_same (take (length word) bytes) word) (drop (length word) bytes) rest e in
    record {
      text = take (length word) bytes;
      parts = sym (take-append-drop (length word) bytes) ∙ ap (λ (t : List ℕ). take (length word) bytes ++ t) g.1;
      is = (is_same_decides (take (length word) bytes) word).0 g.0;
    }

not_postmaster : (o : Option (List ℕ)) (bytes : List ℕ) (x : Address × List ℕ) → past_keyword (codes "<postmaster>") bytes ≡ o → path_at bytes ≡ Some x → o ≡ None
not_postmaster None bytes x e p = refl
not_postmaster (Some rest) bytes x e p =
    let f = keyword_sound (codes "<postmaster>") bytes rest e in
    let gone : path_at bytes ≡ None = ap path_at f.parts ∙ postmaster_no_path f.text rest f.is in
    absurd cc

pub forward_again : (path : Path) (text rest : List ℕ) → ForwardPath path text → forward_at (text ++ rest) ≡ Some (path, rest)
unfolding forward_at
forward_again Null text rest h = absurd h
forward_again Postmaster text rest h = ap (λ (o : Option (List ℕ)). or_path o (text ++ rest)) (keyword_again (codes "<postmaster>") text rest h)
forward_again (To a) text rest h =
    let p = path_again a text rest h in
    ap (λ (o : Option (List ℕ)). or_path o (text ++ rest)) (not_postmaster (past_keyword (codes "<postmaster>") (text ++ rest)) (text ++ rest) (a, rest) refl p)
    ∙ ap (option_map path_to) p
