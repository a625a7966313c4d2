-- Paths that are spelled by the grammar are read so, whatever follows them.
use Rattle.std.proofs.Common.{◌≡◌, ℕ, Bool, false, cond, List, [], ◌∷◌, ◌++◌, length, drop, refl, ap, sym, subst, ◌∙◌, append_assoc, inl, inr}
use Rattle.std.specs.Prelude.{Option, Some, None, ◌==◌, ◌&&◌, codes}
use Rattle.std.specs.Option.{option_map}
use Rattle.std.specs.Char.{to_ascii_lowercase}
use Rattle.std.specs.Str.{str_eq_ignore_ascii_case as is_same}
use Rattle.std.proofs.lemmas.List.{take_at, drop_at, length-map}
use Rattle.envelope.proofs.Case.{is_same_decides}
use Rattle.envelope.proofs.Hops.{no_hop, one_hop}
use Rattle.envelope.proofs.Tokens.{Stops, first_not, domain_again, address_again}
use Rattle.envelope.specs.Values.{Address, Path, Null, Postmaster, To}
use Rattle.envelope.specs.Bytes.{is_atom, is_name}
use Rattle.envelope.specs.Grammar.{Keyword, LocalPart, Domain, Hops, end, hop, Route, Spells, PathTo, ReversePath}
use Rattle.envelope.specs.Reading.{◌>>=◌, first_is, past_byte, past_domain, past_all_hops, past_route, address_at, path_at, path_to, reverse_at, past_keyword}

pub past_domain_again : (text rest : List ℕ) → Domain text → Stops is_name rest → past_domain (text ++ rest) ≡ Some rest
past_domain_again text rest d s =
    ap (λ (o : Option ℕ). o >>= (λ n. Some (drop n (text ++ rest)))) (domain_again text rest d s)
    ∙ ap (λ (l : List ℕ). Some l) (drop_at text rest (length text) refl)

-- ---- routes

hop_text : (text domain others more : List ℕ) → text ≡ codes ",@" ++ domain ++ others → text ++ more ≡ 44 ∷ 64 ∷ (domain ++ (others ++ more))
hop_text text domain others more e =
    ap (λ (t : List ℕ). t ++ more) e ∙ ap (λ (t : List ℕ). 44 ∷ 64 ∷ t) (append_assoc domain others more)

hops_stop : {text : List ℕ} → Hops text → (rest : List ℕ) → Stops is_name (text ++ 58 ∷ rest)
hops_stop end rest = refl
hops_stop (hop {text} domain others e d h) rest = subst (Stops is_name) (sym (hop_text text domain others (58 ∷ rest) e)) refl

pub hops_again : {text : List ℕ} → Hops text → (rest : List ℕ) → past_all_hops (text ++ 58 ∷ rest) ≡ Some (58 ∷ rest)
hops_again end rest = no_hop (58 ∷ rest) refl
hops_again (hop {text} domain others e d h) rest =
    ap past_all_hops (hop_text text domain others (58 ∷ rest) e)
    ∙ one_hop (44 ∷ 64 ∷ (domain ++ (others ++ 58 ∷ rest))) (domain ++ (others ++ 58 ∷ rest)) (others ++ 58 ∷ rest) refl
    (past_domain_again domain (others ++ 58 ∷ rest) d (hops_stop h rest))
    ∙ hops_again h rest

route_text : (text a b d b2 h c rest : List ℕ) → text ≡ a ++ b → a ≡ 64 ∷ [] → b ≡ d ++ b2 → b2 ≡ h ++ c → c ≡ 58 ∷ []
    → text ++ rest ≡ 64 ∷ (d ++ (h ++ 58 ∷ rest))
route_text text a b d b2 h c rest p q r s t =
    let whole : text ≡ 64 ∷ (d ++ (h ++ 58 ∷ [])) = cc in
    ap (λ (x : List ℕ). x ++ rest) whole ∙ simp append_assoc

-- what stands before an address begins with neither of these
local_first : (c : ℕ) (text rest : List ℕ) → is_atom c ≡ false → (34 == c) ≡ false → LocalPart text → first_is c (text ++ rest) ≡ false
local_first c text rest other n (inl q) =
    let e : text ≡ 34 ∷ q.back = cc in
    ap (λ (t : List ℕ). first_is c (t ++ rest)) e ∙ n
local_first c text rest other n (inr h) = first_not is_atom c text rest other h

spells_first : (c : ℕ) (a : Address) (text rest : List ℕ) → is_atom c ≡ false → (34 == c) ≡ false → Spells a text → first_is c (text ++ rest) ≡ false
spells_first c a text rest other n h =
    ap (first_is c) (ap (λ (t : List ℕ). t ++ rest) h.parts ∙ append_assoc (a.local ++ 64 ∷ []) a.domain rest ∙ append_assoc a.local (64 ∷ []) (a.domain ++ rest))
    ∙ local_first c a.local (64 ∷ [] ++ (a.domain ++ rest)) other n h.local

pub route_again : (text rest : List ℕ) → Route text → first_is 64 rest ≡ false → past_route (text ++ rest) ≡ Some rest
route_again text rest (inl e) n =
    ap (λ (t : List ℕ). past_route (t ++ rest)) e
    ∙ ap (λ (t : Bool). cond t (past_domain (drop 1 rest) >>= past_all_hops >>= past_byte 58) (Some rest)) n
route_again text rest (inr q) n =
    let e = route_text text q.front q.back q.second.front q.second.back q.second.second.front q.second.second.back rest
    q.parts q.first q.second.parts q.second.second.parts q.second.second.second in
    ap past_route e
    ∙ ap (λ (o : Option (List ℕ)). o >>= past_all_hops >>= past_byte 58)
    (past_domain_again q.second.front (q.second.second.front ++ 58 ∷ rest) q.second.first (hops_stop q.second.second.first rest))
    ∙ ap (λ (o : Option (List ℕ)). o >>= past_byte 58) (hops_again q.second.second.first rest)

route_first : (text rest : List ℕ) → Route text → first_is 62 rest ≡ false → first_is 62 (text ++ rest) ≡ false
route_first text rest (inl e) n = ap (λ (t : List ℕ). first_is 62 (t ++ rest)) e ∙ n
route_first text rest (inr q) n =
    let e : text ≡ 64 ∷ q.back = cc in
    ap (λ (t : List ℕ). first_is 62 (t ++ rest)) e

-- ---- paths

path_text : (text a b r b2 s c rest : List ℕ) → text ≡ a ++ b → a ≡ 60 ∷ [] → b ≡ r ++ b2 → b2 ≡ s ++ c → c ≡ 62 ∷ []
    → text ++ rest ≡ 60 ∷ (r ++ (s ++ 62 ∷ rest))
path_text text a b r b2 s c rest p q u v t =
    let whole : text ≡ 60 ∷ (r ++ (s ++ 62 ∷ [])) = cc in
    ap (λ (x : List ℕ). x ++ rest) whole ∙ simp append_assoc

path_inner : (a : Address) (r s rest : List ℕ) → Route r → Spells a s → path_at (60 ∷ (r ++ (s ++ 62 ∷ rest))) ≡ Some (a, rest)
path_inner a r s rest h k =
    ap (λ (o : Option (List ℕ)). o >>= (λ start. address_at start >>= (λ x. past_byte 62 x.1 >>= (λ t. Some (x.0, t)))))
    (route_again r (s ++ 62 ∷ rest) h (spells_first 64 a s (62 ∷ rest) refl refl k))
    ∙ ap (λ (o : Option (Address × List ℕ)). o >>= (λ x. past_byte 62 x.1 >>= (λ t. Some (x.0, t)))) (address_again a s (62 ∷ rest) k refl)

pub path_again : (a : Address) (text rest : List ℕ) → PathTo a text → path_at (text ++ rest) ≡ Some (a, rest)
path_again a text rest q =
    let e = path_text text q.front q.back q.second.front q.second.back q.second.second.front q.second.second.back rest
    q.parts q.first q.second.parts q.second.second.parts q.second.second.second in
    ap path_at e ∙ path_inner a q.second.front q.second.second.front rest q.second.first q.second.second.first

path_not_null : (a : Address) (text rest : List ℕ) → PathTo a text → (first_is 60 (text ++ rest) && first_is 62 (drop 1 (text ++ rest))) ≡ false
path_not_null a text rest q =
    let e = path_text text q.front q.back q.second.front q.second.back q.second.second.front q.second.second.back rest
    q.parts q.first q.second.parts q.second.second.parts q.second.second.second in
    ap (λ (t : List ℕ). first_is 60 t && first_is 62 (drop 1 t)) e
    ∙ route_first q.second.front (q.second.second.front ++ 62 ∷ rest) q.second.first
    (spells_first 62 a q.second.second.front (62 ∷ rest) refl refl q.second.second.first)

pub reverse_again : (path : Path) (text rest : List ℕ) → ReversePath path text → reverse_at (text ++ rest) ≡ Some (path, rest)
reverse_again Null text rest h = ap (λ (t : List ℕ). reverse_at (t ++ rest)) h
reverse_again Postmaster text rest h = absurd h
reverse_again (To a) text rest h =
    ap (λ (t : Bool). cond t (Some (Null, drop 2 (text ++ rest))) (option_map path_to (path_at (text ++ rest)))) (path_not_null a text rest h)
    ∙ ap (option_map path_to) (path_again a text rest h)

-- ---- keywords

pub keyword_again : (word text rest : List ℕ) → Keyword word text → past_keyword word (text ++ rest) ≡ Some rest
keyword_again word text rest h =
    let n : length text ≡ length word = sym (length-map text to_ascii_lowercase) ∙ ap length h ∙ length-map word to_ascii_lowercase in
    ap (λ (l : List ℕ). cond (is_same l word) (Some (drop (length word) (text ++ rest))) None) (take_at text rest (length word) n)
    ∙ ap (λ (t : Bool). cond t (Some (drop (length word) (text ++ rest))) None) ((is_same_decides text word).1 h)
    ∙ ap (λ (l : List ℕ). Some l) (drop_at text rest (length word) n)
