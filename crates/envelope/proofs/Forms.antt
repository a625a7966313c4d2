-- A line of a form is read as that form.
use Rattle.std.proofs.Common.{◌≡◌, ℕ, ◌-◌, ◌<◌, Bool, true, false, cond, List, [], ◌∷◌, ◌++◌, length, take, drop, refl, ap, sym, subst, ◌∙◌, arith, length-append, inl, inr}
use Rattle.std.specs.Prelude.{Option, Some, None, ◌==◌, ◌&&◌, not, codes, map, filter}
use Rattle.std.specs.List.{list_all, slice_split, onto_first}
use Rattle.std.specs.Char.{to_ascii_lowercase}
use Rattle.std.proofs.lemmas.Bool.Decides.{Decides-eqb}
use Rattle.std.proofs.lemmas.List.{take_at, drop_at, length-map}
use Rattle.envelope.proofs.Case.{decides_false}
use Rattle.envelope.proofs.Addressed.{addressed_is}
use Rattle.envelope.proofs.Tokens.{Stops, span_len}
use Rattle.envelope.proofs.Paths.{reverse_again, keyword_again}
use Rattle.envelope.proofs.Complete.{forward_again}
use Rattle.envelope.proofs.Words.{all_joined, all_of, words_gap, words_spaces, word_then, space_text, graphic_text, graphic_not_space, spaces_first, parameters_again}
use Rattle.envelope.proofs.Begins.{unspaced_word, after_gap_stops, gap_stops}
use Rattle.envelope.specs.declared.command.Verb.{Verb}
use Rattle.envelope.specs.declared.command.Verb.TheVariants as verbs
use Rattle.envelope.specs.Values.{Address, Path, Null, Postmaster, To, Command}
use Rattle.envelope.specs.Values as say
use Rattle.envelope.specs.Bytes.{is_space, is_not_space, is_text, is_graphic}
use Rattle.envelope.specs.Grammar.{Keyword, Many, Some1, Spaces, Gap, AfterGap, Anything, PathTo, ReversePath, ForwardPath, Form, Plain, Mail, Rcpt, Line, name_of}
use Rattle.envelope.specs.Reading.{past_keyword, forward_at, reverse_at, words, has_bytes, is_tail, after_spaces, addressed, alone, form_of}

pub record IsRead (form : Form) (line : List ℕ) : Type 0 where
  pub verb : Verb
  pub text : List ℕ
  pub rest : List ℕ
  pub parts : line ≡ text ++ rest
  pub named : Keyword (name_of verb) text
  pub stops : Stops is_not_space rest
  pub is : form_of verb rest ≡ Some form

-- ---- spaces

spaces_stop : (sp : List ℕ) → Spaces sp → Stops is_not_space sp
spaces_stop [] h = tt
spaces_stop (x ∷ sp) h = ap not h.0

past_spaces : (sp rest : List ℕ) → Spaces sp → Stops is_space rest → after_spaces (sp ++ rest) ≡ rest
past_spaces sp rest h s =
    ap (λ (n : ℕ). drop n (sp ++ rest)) (span_len is_space sp rest h s) ∙ drop_at sp rest (length sp) refl

pub not_true : (b : Bool) → not b ≡ true → b ≡ false
not_true true e = absurd cc
not_true false e = refl

word_stops : (text rest : List ℕ) → Many is_not_space text → 0 < length text → Stops is_space (text ++ rest)
word_stops [] rest h n = absurd (omega arith)
word_stops (x ∷ xs) rest h n = not_true (is_space x) h.0

-- ---- words

filled : (parts : List (List ℕ)) (x : ℕ) → (length (filter has_bytes (onto_first x parts)) == 0) ≡ false
filled [] x = refl
filled (part ∷ parts) x =
    let full : has_bytes (x ∷ part) ≡ true = ap not (decides_false (length (x ∷ part) == 0) (Decides-eqb (length (x ∷ part)) 0) (λ e. omega (arith, e))) in
    ap (λ (t : Bool). length (cond t ((x ∷ part) ∷ filter has_bytes parts) (filter has_bytes parts)) == 0) full
    ∙ decides_false (length ((x ∷ part) ∷ filter has_bytes parts) == 0) (Decides-eqb (length ((x ∷ part) ∷ filter has_bytes parts)) 0) (λ e. omega (arith, e))

pub some_words : (x : ℕ) (xs : List ℕ) → is_space x ≡ false → (length (words (x ∷ xs)) == 0) ≡ false
some_words x xs h =
    ap (λ (t : Bool). length (filter has_bytes (cond t ([] ∷ slice_split is_space xs) (onto_first x (slice_split is_space xs)))) == 0) h
    ∙ filled (slice_split is_space xs) x

graphic_words : (w rest : List ℕ) → Some1 is_graphic w → (length (words (w ++ rest)) == 0) ≡ false
graphic_words [] rest h = absurd (omega (arith, h.0))
graphic_words (x ∷ xs) rest h = some_words x (xs ++ rest) (graphic_not_space x h.1.0)

no_more : (sp : List ℕ) → Spaces sp → (length (words sp) == 0) ≡ true
no_more sp h = ap (λ (l : List (List ℕ)). length l == 0) (words_spaces sp h)

-- ---- forms

lhlo_again : (gap w sp : List ℕ) → Gap gap → Some1 is_graphic w → Spaces sp → form_of verbs.Lhlo (gap ++ (w ++ sp)) ≡ Some (Plain say.Lhlo)
lhlo_again gap w sp g h s =
    let one : words (gap ++ (w ++ sp)) ≡ w ∷ [] =
    words_gap gap (w ++ sp) g.1 ∙ word_then w sp h (spaces_first sp s) ∙ ap (λ (l : List (List ℕ)). w ∷ l) (words_spaces sp s) in
    let text = all_joined is_text gap (w ++ sp) (all_of is_space is_text gap space_text g.1)
    (all_joined is_text w sp (all_of is_graphic is_text w graphic_text h.1) (all_of is_space is_text sp space_text s)) in
    ap (λ (t : Bool). cond (t && (length (words (gap ++ (w ++ sp))) == 1)) (Some (Plain say.Lhlo)) None) text
    ∙ ap (λ (l : List (List ℕ)). cond (length l == 1) (Some (Plain say.Lhlo)) None) one

alone_again : (v : Verb) (command : Command) (sp : List ℕ) → Spaces sp → alone command sp ≡ Some (Plain command)
alone_again v command sp s = ap (λ (t : Bool). cond t (Some (Plain command)) None) (no_more sp s)

same_text : (t : List ℕ) → Many is_text t → list_all is_text t ≡ true
same_text t h = all_of is_text is_text t (λ b k. k) h

noop_text : (rest : List ℕ) → AfterGap (Many is_text) rest → list_all is_text rest ≡ true
noop_text rest (inl e) = ap (list_all is_text) e
noop_text rest (inr q) = ap (list_all is_text) q.parts ∙ all_joined is_text q.front q.back (all_of is_space is_text q.front space_text q.first.1) (same_text q.back q.second)

vrfy_again : (gap w t : List ℕ) → Gap gap → Some1 is_graphic w → Many is_text t → form_of verbs.Vrfy (gap ++ (w ++ t)) ≡ Some (Plain say.Vrfy)
vrfy_again gap w t g h k =
    let text = all_joined is_text gap (w ++ t) (all_of is_space is_text gap space_text g.1)
    (all_joined is_text w t (all_of is_graphic is_text w graphic_text h.1) (same_text t k)) in
    let more : (length (words (gap ++ (w ++ t))) == 0) ≡ false = ap (λ (l : List (List ℕ)). length l == 0) (words_gap gap (w ++ t) g.1) ∙ graphic_words w t h in
    ap (λ (u : Bool). cond (u && not (length (words (gap ++ (w ++ t))) == 0)) (Some (Plain say.Vrfy)) None) text
    ∙ ap (λ (u : Bool). cond (not u) (Some (Plain say.Vrfy)) None) more

addressed_again : (keyword : List ℕ) (at : List ℕ → Option (Path × List ℕ)) (make : List ℕ → Path → List (List ℕ) → Form) (gap named sp text tail : List ℕ) (path : Path) (ws : List (List ℕ))
    → Gap gap → Keyword keyword named → Many is_not_space named → 0 < length named → Spaces sp → Stops is_space (text ++ tail)
    → at (text ++ tail) ≡ Some (path, tail) → words tail ≡ ws → is_tail tail ≡ true
    → addressed keyword at make (gap ++ (named ++ (sp ++ (text ++ tail)))) ≡ Some (make text path ws)
addressed_again keyword at make gap named sp text tail path ws g k u n s st a w t =
    let bytes = gap ++ (named ++ (sp ++ (text ++ tail))) in
    let rest = sp ++ (text ++ tail) in
    let first : past_keyword keyword (after_spaces bytes) ≡ Some rest =
    ap (past_keyword keyword) (past_spaces gap (named ++ rest) g.1 (word_stops named rest u n)) ∙ keyword_again keyword named rest k in
    let start : after_spaces rest ≡ text ++ tail = past_spaces sp (text ++ tail) s st in
    let size : length text ≡ length (text ++ tail) - length tail = omega (arith, length-append text tail) in
    addressed_is keyword at make bytes rest (path, tail) first (ap at start ∙ a) t
    ∙ ap (λ (l : List ℕ). Some (make (take (length l - length tail) l) path (words tail))) start
    ∙ ap (λ (l : List ℕ). Some (make l path (words tail))) (take_at text tail (length (text ++ tail) - length tail) size)
    ∙ ap (λ (l : List (List ℕ)). Some (make text path l)) w

lettered : (word text : List ℕ) → Keyword word text → Many is_not_space (map to_ascii_lowercase word) → Many is_not_space text
lettered word text h k = unspaced_word text (map to_ascii_lowercase word) h k

keyword_length : (word text : List ℕ) → Keyword word text → length text ≡ length word
keyword_length word text h = sym (length-map text to_ascii_lowercase) ∙ ap length h ∙ length-map word to_ascii_lowercase

path_stops : (a : Address) (text rest : List ℕ) → PathTo a text → Stops is_space (text ++ rest)
path_stops a text rest q =
    let e : text ≡ 60 ∷ q.back = cc in
    subst (λ (t : List ℕ). Stops is_space (t ++ rest)) (sym e) refl

reverse_stops : (path : Path) (text rest : List ℕ) → ReversePath path text → Stops is_space (text ++ rest)
reverse_stops Null text rest h = subst (λ (t : List ℕ). Stops is_space (t ++ rest)) (sym h) refl
reverse_stops Postmaster text rest h = absurd h
reverse_stops (To a) text rest h = path_stops a text rest h

forward_stops : (path : Path) (text rest : List ℕ) → ForwardPath path text → Stops is_space (text ++ rest)
forward_stops Null text rest h = absurd h
forward_stops Postmaster text rest h =
    let n = keyword_length (codes "<postmaster>") text h in
    word_stops text rest (lettered (codes "<postmaster>") text h (refl, (refl, (refl, (refl, (refl, (refl, (refl, (refl, (refl, (refl, (refl, (refl, tt))))))))))))) (omega (arith, n))
forward_stops (To a) text rest h = path_stops a text rest h

pub is_read : (form : Form) (line : List ℕ) → Line form line → IsRead form line
is_read (Plain say.Lhlo) line q =
    let w = q.second.second in
    record {
      verb = verbs.Lhlo;
      text = q.front;
      rest = q.back;
      parts = q.parts;
      named = q.first;
      stops = gap_stops q.second.front q.second.back q.back q.second.parts q.second.first;
      is = ap (form_of verbs.Lhlo) (q.second.parts ∙ ap (λ (t : List ℕ). q.second.front ++ t) w.parts) ∙ lhlo_again q.second.front w.front w.back q.second.first w.first w.second;
    }
is_read (Plain say.Data) line q = record { verb = verbs.Data; text = q.front; rest = q.back; parts = q.parts; named = q.first; stops = spaces_stop q.back q.second; is = alone_again verbs.Data say.Data q.back q.second }
is_read (Plain say.Rset) line q = record { verb = verbs.Rset; text = q.front; rest = q.back; parts = q.parts; named = q.first; stops = spaces_stop q.back q.second; is = alone_again verbs.Rset say.Rset q.back q.second }
is_read (Plain say.Quit) line q = record { verb = verbs.Quit; text = q.front; rest = q.back; parts = q.parts; named = q.first; stops = spaces_stop q.back q.second; is = alone_again verbs.Quit say.Quit q.back q.second }
is_read (Plain say.Noop) line q = record { verb = verbs.Noop; text = q.front; rest = q.back; parts = q.parts; named = q.first; stops = after_gap_stops (Many is_text) q.back q.second; is = ap (λ (t : Bool). cond t (Some (Plain say.Noop)) None) (noop_text q.back q.second) }
is_read (Plain say.Vrfy) line q =
    let w = q.second.second in
    record {
      verb = verbs.Vrfy;
      text = q.front;
      rest = q.back;
      parts = q.parts;
      named = q.first;
      stops = gap_stops q.second.front q.second.back q.back q.second.parts q.second.first;
      is = ap (form_of verbs.Vrfy) (q.second.parts ∙ ap (λ (t : List ℕ). q.second.front ++ t) w.parts) ∙ vrfy_again q.second.front w.front w.back q.second.first w.first w.second;
    }
is_read (Plain say.Expn) line q = record { verb = verbs.Expn; text = q.front; rest = q.back; parts = q.parts; named = q.first; stops = after_gap_stops Anything q.back q.second; is = refl }
is_read (Plain say.Help) line q = record { verb = verbs.Help; text = q.front; rest = q.back; parts = q.parts; named = q.first; stops = after_gap_stops Anything q.back q.second; is = refl }
is_read (Plain (say.Mail path)) line q = absurd q
is_read (Plain (say.Rcpt path)) line q = absurd q
is_read (Mail spelled path words) line q =
    let g = q.second in let k = g.second in let s = k.second in let p = s.second in let t = p.second in
    let n = keyword_length (codes "FROM:") k.front k.first in
    let tail = parameters_again words t.front t.back t.first t.second in
    let whole : q.back ≡ g.front ++ (k.front ++ (s.front ++ (spelled ++ (t.front ++ t.back)))) =
    g.parts ∙ ap (λ (x : List ℕ). g.front ++ x) (k.parts ∙ ap (λ (x : List ℕ). k.front ++ x) (s.parts ∙ ap (λ (x : List ℕ). s.front ++ x) (p.parts ∙ ap (λ (x : List ℕ). x ++ p.back) p.first.0 ∙ ap (λ (x : List ℕ). spelled ++ x) t.parts))) in
    let path_is : ReversePath path spelled = subst (ReversePath path) p.first.0 p.first.1 in
    record {
      verb = verbs.Mail;
      text = q.front;
      rest = q.back;
      parts = q.parts;
      named = q.first;
      stops = gap_stops g.front g.back q.back g.parts g.first;
      is = ap (form_of verbs.Mail) whole ∙ addressed_again (codes "FROM:") reverse_at Mail g.front k.front s.front spelled (t.front ++ t.back) path words g.first k.first
          (lettered (codes "FROM:") k.front k.first (refl, (refl, (refl, (refl, (refl, tt)))))) (omega (arith, n)) s.first (reverse_stops path spelled (t.front ++ t.back) path_is)
          (reverse_again path spelled (t.front ++ t.back) path_is) tail.0 tail.1;
    }
is_read (Rcpt spelled path words) line q =
    let g = q.second in let k = g.second in let s = k.second in let p = s.second in let t = p.second in
    let n = keyword_length (codes "TO:") k.front k.first in
    let tail = parameters_again words t.front t.back t.first t.second in
    let whole : q.back ≡ g.front ++ (k.front ++ (s.front ++ (spelled ++ (t.front ++ t.back)))) =
    g.parts ∙ ap (λ (x : List ℕ). g.front ++ x) (k.parts ∙ ap (λ (x : List ℕ). k.front ++ x) (s.parts ∙ ap (λ (x : List ℕ). s.front ++ x) (p.parts ∙ ap (λ (x : List ℕ). x ++ p.back) p.first.0 ∙ ap (λ (x : List ℕ). spelled ++ x) t.parts))) in
    let path_is : ForwardPath path spelled = subst (ForwardPath path) p.first.0 p.first.1 in
    record {
      verb = verbs.Rcpt;
      text = q.front;
      rest = q.back;
      parts = q.parts;
      named = q.first;
      stops = gap_stops g.front g.back q.back g.parts g.first;
      is = ap (form_of verbs.Rcpt) whole ∙ addressed_again (codes "TO:") forward_at Rcpt g.front k.front s.front spelled (t.front ++ t.back) path words g.first k.first
          (lettered (codes "TO:") k.front k.first (refl, (refl, (refl, tt)))) (omega (arith, n)) s.first (forward_stops path spelled (t.front ++ t.back) path_is)
          (forward_again path spelled (t.front ++ t.back) path_is) tail.0 tail.1;
    }
