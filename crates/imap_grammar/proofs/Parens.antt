-- What stands in parentheses, with no space first or last.
use Rattle.std.proofs.Common.{◌≡◌, ℕ, suc, ◌-◌, ◌<◌, Bool, true, false, cond, List, [], ◌∷◌, ◌++◌, length, get_or, refl, ap, sym, subst, ◌∙◌, arith, length-append, append_assoc}
use Rattle.std.specs.Prelude.{Option, Some, None, ◌==◌, ◌&&◌, not}
use Rattle.envelope.proofs.Sound.{bind_some, guard_some, byte_sound}
use Rattle.envelope.proofs.Tails.{each_of}
use Rattle.envelope.proofs.Tokens.{Stops}
use Rattle.envelope.proofs.Words.{both_true, all_of, append_none, is_both}
use Rattle.envelope.specs.Bytes.{is_space, is_not_space}
use Rattle.envelope.specs.Grammar.{Many, Some1, Spaces, Gap}
use Rattle.envelope.specs.Reading.{◌>>=◌, first_is, past_byte}
use Rattle.imap_grammar.specs.Cuts.{cut_at}
use Rattle.imap_grammar.specs.Grammar.{Separated}
use Rattle.imap_grammar.specs.Reading.{is_tight, in_parentheses}
use Rattle.imap_grammar.specs.Front.{is_blank}
use Rattle.imap_grammar.proofs.Cuts.{is_other, cut_sound, cut_again}
use Rattle.imap_grammar.proofs.Tokens.{not_true, starts}

-- the last byte, or 0
abbrev pub last : List ℕ → ℕ
last text = get_or text (length text - 1) 0

pub last_cons : (x : ℕ) (l : List ℕ) → 0 < length l → last (x ∷ l) ≡ last l
last_cons x l h =
    let e : suc (length l) - 1 ≡ suc (length l - 1) = omega arith in
    ap (λ (n : ℕ). get_or (x ∷ l) n 0) e

last_behind : (a b : List ℕ) → 0 < length b → last (a ++ b) ≡ last b
last_behind [] b h = refl
last_behind (x ∷ a) b h = last_cons x (a ++ b) (omega (arith, length-append a b)) ∙ last_behind a b h

last_of_many : (p : ℕ → Bool) (w : List ℕ) → Some1 p w → p (last w) ≡ true
last_of_many p [] h = absurd (omega (arith, h.0))
last_of_many p (x ∷ []) h = h.1.0
last_of_many p (x ∷ y ∷ ws) h = ap p (last_cons x (y ∷ ws) (omega arith)) ∙ last_of_many p (y ∷ ws) (omega arith, h.1.1)

separated_last : {A : Type 0} (P : A → List ℕ → Type 0) → ((x : A) (t : List ℕ) → P x t → (0 < length t) × (is_not_space (last t) ≡ true)) → (x : A) (xs : List A) (text : List ℕ)
    → Separated Gap P (x ∷ xs) text → (0 < length text) × (is_not_space (last text) ≡ true)
separated_last P ends x [] text q =
    let whole : text ≡ q.front = q.parts ∙ ap (λ l. q.front ++ l) q.second ∙ append_none q.front in
    let h = ends x q.front q.first in
    (omega (arith, h.0, ap length whole), ap (λ l. is_not_space (last l)) whole ∙ h.1)
separated_last P ends x (y ∷ ys) text q =
    let r = separated_last P ends y ys q.second.back q.second.second in
    let whole : text ≡ (q.front ++ q.second.front) ++ q.second.back = q.parts ∙ ap (λ l. q.front ++ l) q.second.parts ∙ sym (append_assoc q.front q.second.front q.second.back) in (
      omega (arith, r.0, ap length whole, length-append (q.front ++ q.second.front) q.second.back),
      ap (λ l. is_not_space (last l)) whole ∙ ap is_not_space (last_behind (q.front ++ q.second.front) q.second.back r.0) ∙ r.1,
    )

stops_first : (text : List ℕ) → Stops is_space text → first_is 32 text ≡ false
stops_first [] s = refl
stops_first (x ∷ xs) s = s

-- by the edges of what stands between gaps
pub edges_tight : {A : Type 0} (P : A → List ℕ → Type 0) → ((x : A) (t rest : List ℕ) → P x t → Stops is_space (t ++ rest)) → ((x : A) (t : List ℕ) → P x t → (0 < length t) × (is_not_space (last t) ≡ true))
    → (x : A) (xs : List A) (text : List ℕ) → Separated Gap P (x ∷ xs) text → is_tight text ≡ true
edges_tight P begins ends x xs text q =
    is_both (not (first_is 32 text)) (not (last text == 32)) (ap not (stops_first text (subst (Stops is_space) (sym q.parts) (begins x q.front q.back q.first)))) (separated_last P ends x xs text q).1

pub separated_tight : {A : Type 0} (P : A → List ℕ → Type 0) → ((x : A) (t : List ℕ) → P x t → Some1 is_not_space t) → (x : A) (xs : List A) (text : List ℕ)
    → Separated Gap P (x ∷ xs) text → is_tight text ≡ true
separated_tight P bare x xs text q =
    edges_tight P (λ x t rest h. starts is_not_space (λ b e. not_true (is_space b) e) t rest (bare x t h)) (λ x t h. ((bare x t h).0, last_of_many is_not_space t (bare x t h))) x xs text q

pub separated_starts : {A : Type 0} (P : A → List ℕ → Type 0) → ((x : A) (t : List ℕ) → P x t → Some1 is_not_space t) → (x : A) (xs : List A) (text rest : List ℕ)
    → Separated Gap P (x ∷ xs) text → Stops is_space (text ++ rest)
separated_starts P bare x xs text rest q =
    subst (λ l. Stops is_space (l ++ rest)) (sym q.parts)
    (subst (Stops is_space) (sym (append_assoc q.front q.back rest)) (starts is_not_space (λ b e. not_true (is_space b) e) q.front (q.back ++ rest) (bare x q.front q.first)))

pub tight_stops : (text : List ℕ) → is_tight text ≡ true → Stops is_space text
tight_stops [] e = tt
tight_stops (x ∷ xs) e = not_true (x == 32) (both_true (not (x == 32)) (not (last (x ∷ xs) == 32)) e).0

pub tight_end : (bytes text sp : List ℕ) → bytes ≡ text ++ sp → Spaces sp → is_tight bytes ≡ true → bytes ≡ text
tight_end bytes text [] e s t = e ∙ append_none text
tight_end bytes text (c ∷ cs) e s t =
    let sp = c ∷ cs in
    let blank : is_space (last sp) ≡ true = last_of_many is_space sp (omega arith, s) in
    let same : last bytes ≡ last sp = ap last e ∙ last_behind text sp (omega arith) in
    let ends : (last bytes == 32) ≡ true = ap (λ (n : ℕ). n == 32) same ∙ blank in
    let not_so : (last bytes == 32) ≡ false = not_true (last bytes == 32) (both_true (not (first_is 32 bytes)) (not (last bytes == 32)) t).1 in
    absurd cc

-- ---- parentheses

pub blank_again : (sp : List ℕ) → Spaces sp → is_blank sp ≡ true
blank_again sp s = all_of is_space is_space sp (λ b e. e) s

pub blank_sound : (sp : List ℕ) → is_blank sp ≡ true → Spaces sp
blank_sound sp e = each_of is_space sp e

abbrev inside : List ℕ × List ℕ → Option (List ℕ)
inside cut = cond (is_blank cut.1 && is_tight cut.0) (Some cut.0) None

pub paren_again : (inner sp : List ℕ) → Many (is_other 41) inner → is_tight inner ≡ true → Spaces sp → in_parentheses ((40 ∷ (inner ++ 41 ∷ [])) ++ sp) ≡ Some inner
paren_again inner sp h t s =
    let pair : List ℕ × List ℕ = (inner, sp) in
    let cut : cut_at 41 ((inner ++ 41 ∷ []) ++ sp) ≡ Some pair = ap (cut_at 41) (append_assoc inner (41 ∷ []) sp) ∙ cut_again 41 inner sp h in
    ap (λ o. o >>= inside) cut ∙ ap (λ (u : Bool). cond u (Some inner) None) (is_both (is_blank sp) (is_tight inner) (blank_again sp s) t)

pub record FoundParens (bytes inner : List ℕ) : Type 0 where
  pub spaces : List ℕ
  pub parts : bytes ≡ (40 ∷ (inner ++ 41 ∷ [])) ++ spaces
  pub blank : Spaces spaces
  pub tight : is_tight inner ≡ true

paren_found : (bytes start inner : List ℕ) (c : List ℕ × List ℕ) → past_byte 40 bytes ≡ Some start → cut_at 41 start ≡ Some c → inside c ≡ Some inner → FoundParens bytes inner
paren_found bytes start inner c e f g =
    let k = guard_some (is_blank c.1 && is_tight c.0) c.0 inner g in
    let b = both_true (is_blank c.1) (is_tight c.0) k.0 in
    let w = cut_sound 41 start c.0 c.1 f in
    subst (FoundParens bytes) k.1 (record {
      spaces = c.1;
      parts = byte_sound 40 bytes start e ∙ ap (λ l. 40 ∷ l) (w.whole ∙ sym (append_assoc c.0 (41 ∷ []) c.1));
      blank = blank_sound c.1 b.0;
      tight = b.1;
    })

pub paren_sound : (bytes inner : List ℕ) → in_parentheses bytes ≡ Some inner → FoundParens bytes inner
paren_sound bytes inner e =
    let a = bind_some (past_byte 40 bytes) (λ start. cut_at 41 start >>= inside) inner e in
    let b = bind_some (cut_at 41 a.0) inside inner a.2 in
    paren_found bytes a.0 inner b.0 a.1 b.1 b.2
