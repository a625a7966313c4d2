-- What is read as a form is a line of that form.
use Rattle.std.proofs.Common.{◌≡◌, ℕ, ◌-◌, Bool, true, false, cond, List, [], ◌∷◌, ◌++◌, length, take, drop, refl, ap, sym, subst, ◌∙◌, arith, length-append, append_assoc, inl, inr, ◌⊎◌}
use Rattle.std.specs.Prelude.{Option, Some, None, ◌==◌, ◌&&◌, ◌||◌, not, codes, filter}
use Rattle.std.specs.List.{prefix_len, list_all, slice_split, onto_first}
use Rattle.std.specs.Option.{option_map}
use Rattle.std.proofs.lemmas.Bool.Decides.{Decides-eqb}
use Rattle.std.proofs.lemmas.List.{take_at, take-append-drop}
use Rattle.envelope.proofs.Sound.{bind_some, guard_some, map_some, either, Front, many_taken, path_sound, first_cons}
use Rattle.envelope.proofs.Complete.{keyword_sound}
use Rattle.envelope.proofs.Forms.{some_words}
use Rattle.envelope.proofs.Words.{both_true}
use Rattle.envelope.proofs.Begins.{not_not, stopped_gap}
use Rattle.envelope.proofs.Tokens.{Stops}
use Rattle.envelope.proofs.Tails.{tail_sound, starts_some, taken_length, each_of, all_parted}
use Rattle.envelope.specs.declared.command.Verb.{Verb}
use Rattle.envelope.specs.declared.command.Verb.TheVariants as verbs
use Rattle.envelope.specs.Values.{Address, Path, Null, Postmaster, To, Command}
use Rattle.envelope.specs.Values as say
use Rattle.envelope.specs.Bytes.{is_space, is_not_space, is_text, is_graphic}
use Rattle.envelope.specs.Grammar.{◌⨾◌, Exactly, Keyword, Many, Some1, Spaces, Gap, AfterGap, Anything, ReversePath, ForwardPath, Parameters, Form, Plain, Mail, Rcpt, Line, name_of}
use Rattle.envelope.specs.Reading.{◌>>=◌, first_is, past_keyword, path_at, path_to, or_path, forward_at, reverse_at, words, has_bytes, is_tail, after_spaces, addressed, with_words, form_of}

-- ---- paths

mapped : (P : Path → List ℕ → Type 0) (bytes rest : List ℕ) (path : Path) → ((a : Address) (r : List ℕ) → path_at bytes ≡ Some (a, r) → Front (P (To a)) bytes r)
    → option_map path_to (path_at bytes) ≡ Some (path, rest) → Front (P path) bytes rest
mapped P bytes rest path f e =
    let m = map_some path_to (path_at bytes) (path, rest) e in
    subst (λ (x : Path × List ℕ). Front (P x.0) bytes x.1) m.2 (f m.0.0 m.0.1 m.1)

two_first : (bytes : List ℕ) → (first_is 60 bytes && first_is 62 (drop 1 bytes)) ≡ true → bytes ≡ 60 ∷ 62 ∷ drop 1 (drop 1 bytes)
two_first bytes e =
    let k = both_true (first_is 60 bytes) (first_is 62 (drop 1 bytes)) e in
    first_cons 60 bytes k.0 ∙ ap (λ (l : List ℕ). 60 ∷ l) (first_cons 62 (drop 1 bytes) k.1)

drop_two : (bytes : List ℕ) → drop 1 (drop 1 bytes) ≡ drop 2 bytes
drop_two [] = refl
drop_two (x ∷ xs) = refl

reverse_sound : (bytes : List ℕ) (path : Path) (rest : List ℕ) → reverse_at bytes ≡ Some (path, rest) → Front (ReversePath path) bytes rest
reverse_sound bytes path rest e =
    elim (either (first_is 60 bytes && first_is 62 (drop 1 bytes)) (Some (Null, drop 2 bytes)) (option_map path_to (path_at bytes)) (Some (path, rest)) e) [
      | inl q ↦
          let pair : Path × List ℕ = (Null, drop 2 bytes) in
          let same : pair ≡ (path, rest) = cc in
          subst (λ (x : Path × List ℕ). Front (ReversePath x.0) bytes x.1) same
          (record { text = 60 ∷ 62 ∷ []; parts = two_first bytes q.0 ∙ ap (λ (l : List ℕ). 60 ∷ 62 ∷ l) (drop_two bytes); is = refl })
      | inr q ↦ mapped ReversePath bytes rest path (λ a r k. path_sound bytes a r k) q.1
    ]

or_sound : (o : Option (List ℕ)) (bytes : List ℕ) (path : Path) (rest : List ℕ) → past_keyword (codes "<postmaster>") bytes ≡ o → or_path o bytes ≡ Some (path, rest) → Front (ForwardPath path) bytes rest
or_sound None bytes path rest k e = mapped ForwardPath bytes rest path (λ a r h. path_sound bytes a r h) e
or_sound (Some r) bytes path rest k e =
    let pair : Path × List ℕ = (Postmaster, r) in
    let same : pair ≡ (path, rest) = cc in
    let f = keyword_sound (codes "<postmaster>") bytes r k in
    subst (λ (x : Path × List ℕ). Front (ForwardPath x.0) bytes x.1) same (record { text = f.text; parts = f.parts; is = f.is })

forward_sound : (bytes : List ℕ) (path : Path) (rest : List ℕ) → forward_at bytes ≡ Some (path, rest) → Front (ForwardPath path) bytes rest
unfolding forward_at
forward_sound bytes path rest e = or_sound (past_keyword (codes "<postmaster>") bytes) bytes path rest refl e

-- ---- the parts behind a verb

gap_taken : (x : ℕ) (xs : List ℕ) → is_space x ≡ true → Gap (take (prefix_len is_space (x ∷ xs)) (x ∷ xs))
gap_taken x xs e =
    let some = starts_some is_space x xs e in
    let size = taken_length is_space (x ∷ xs) in
    (omega arith, many_taken is_space (x ∷ xs))

record AddressedParts (keyword : List ℕ) (P : Path → List ℕ → Type 0) (make : List ℕ → Path → List (List ℕ) → Form) (bytes : List ℕ) (form : Form) : Type 0 where
  spelled : List ℕ
  path : Path
  ws : List (List ℕ)
  is : make spelled path ws ≡ form
  line : (Gap ⨾ Keyword keyword ⨾ Spaces ⨾ (λ text. Exactly spelled text × P path text) ⨾ Parameters ws ⨾ Spaces) bytes

addressed_sound : (keyword : List ℕ) (at : List ℕ → Option (Path × List ℕ)) (P : Path → List ℕ → Type 0) (make : List ℕ → Path → List (List ℕ) → Form)
    → ((b : List ℕ) (path : Path) (r : List ℕ) → at b ≡ Some (path, r) → Front (P path) b r) → past_keyword keyword [] ≡ None
    → (bytes : List ℕ) (form : Form) → Stops is_not_space bytes → addressed keyword at make bytes ≡ Some form → AddressedParts keyword P make bytes form
addressed_sound keyword at P make sound none [] form s e =
    let b = bind_some (past_keyword keyword []) (λ (r : List ℕ). at (after_spaces r) >>= with_words make (after_spaces r)) form e in
    let no : past_keyword keyword [] ≡ Some b.0 = b.1 in
    absurd cc
addressed_sound keyword at P make sound none (x ∷ xs) form s e =
    let bytes = x ∷ xs in
    let one = bind_some (past_keyword keyword (after_spaces bytes)) (λ (r : List ℕ). at (after_spaces r) >>= with_words make (after_spaces r)) form e in
    let rest = one.0 in
    let start = after_spaces rest in
    let two = bind_some (at start) (with_words make start) form one.2 in
    let tail = two.0.1 in
    let g = guard_some (is_tail tail) (make (take (length start - length tail) start) two.0.0 (words tail)) form two.2 in
    let k = keyword_sound keyword (after_spaces bytes) rest one.1 in
    let p = sound start two.0.0 tail two.1 in
    let t = tail_sound tail g.0 in
    let size : length p.text ≡ length start - length tail = omega (arith, ap length p.parts, length-append p.text tail) in
    let same : p.text ≡ take (length start - length tail) start =
    sym (take_at p.text tail (length start - length tail) size) ∙ ap (take (length start - length tail)) (sym p.parts) in
    record {
      spelled = take (length start - length tail) start;
      path = two.0.0;
      ws = words tail;
      is = g.1;
      line = record {
        front = take (prefix_len is_space bytes) bytes;
        back = after_spaces bytes;
        parts = sym (take-append-drop (prefix_len is_space bytes) bytes);
        first = gap_taken x xs (not_not (is_space x) s);
        second = record {
          front = k.text;
          back = rest;
          parts = k.parts;
          first = k.is;
          second = record {
            front = take (prefix_len is_space rest) rest;
            back = start;
            parts = sym (take-append-drop (prefix_len is_space rest) rest);
            first = many_taken is_space rest;
            second = record {
              front = p.text;
              back = tail;
              parts = p.parts;
              first = (same, p.is);
              second = record { front = t.text; back = t.spaces; parts = t.parts; first = t.parameters; second = t.blank };
            };
          };
        };
      };
    }

-- ---- words

spaced_rest : (x : ℕ) (xs : List ℕ) → is_space x ≡ true → (length (words (x ∷ xs)) == 0) ≡ true → (length (words xs) == 0) ≡ true
spaced_rest x xs h e =
    sym (ap (λ (t : Bool). length (filter has_bytes (cond t ([] ∷ slice_split is_space xs) (onto_first x (slice_split is_space xs)))) == 0) h) ∙ e

not_both : (b : Bool) → b ≡ true → b ≡ false → ⊥
not_both b e f = let no : true ≡ false = sym e ∙ f in cc

yes_or_no : (b : Bool) → (b ≡ true) ⊎ (b ≡ false)
yes_or_no true = inl refl
yes_or_no false = inr refl

no_words : (bytes : List ℕ) → (length (words bytes) == 0) ≡ true → Spaces bytes
no_words [] e = tt
no_words (x ∷ xs) e =
    elim (yes_or_no (is_space x)) [
      | inl h ↦ (h, no_words xs (spaced_rest x xs h e))
      | inr h ↦ absurd (not_both _ e (some_words x xs h))
    ]

stop_first : (rest : List ℕ) → Stops is_not_space rest → (first_is 32 rest || (length rest == 0)) ≡ true
stop_first [] s = refl
stop_first (x ∷ xs) s = ap (λ (t : Bool). t || (length (x ∷ xs) == 0)) (not_not (is_space x) s)

one_word : (ws : List (List ℕ)) (text spaces : List ℕ) → (length ws == 1) ≡ true → Parameters ws text → Spaces spaces
    → (Gap ⨾ Some1 is_graphic ⨾ Spaces) (text ++ spaces)
one_word [] text spaces e p s = absurd cc
one_word (w ∷ []) text spaces e p s =
    let none : p.second.back ≡ [] = p.second.second in
    record {
      front = p.front;
      back = p.back ++ spaces;
      parts = ap (λ (l : List ℕ). l ++ spaces) p.parts ∙ append_assoc p.front p.back spaces;
      first = p.first;
      second = record {
        front = p.second.front;
        back = spaces;
        parts = ap (λ (l : List ℕ). l ++ spaces) (p.second.parts ∙ ap (λ (l : List ℕ). p.second.front ++ l) none) ∙ simp append_assoc;
        first = subst (Some1 is_graphic) (sym p.second.first.0) p.second.first.1;
        second = s;
      };
    }
one_word (w ∷ v ∷ ws) text spaces e p s =
    let n : length (w ∷ v ∷ ws) ≡ 1 = (Decides-eqb (length (w ∷ v ∷ ws)) 1).0 e in
    absurd (omega (arith, n))

some_word : (ws : List (List ℕ)) (text spaces : List ℕ) → not (length ws == 0) ≡ true → Parameters ws text → list_all is_text (text ++ spaces) ≡ true
    → (Gap ⨾ Some1 is_graphic ⨾ Many is_text) (text ++ spaces)
some_word [] text spaces e p a = absurd cc
some_word (w ∷ ws) text spaces e p a =
    let whole : text ++ spaces ≡ p.front ++ (p.second.front ++ (p.second.back ++ spaces)) =
    ap (λ (l : List ℕ). l ++ spaces) (p.parts ∙ ap (λ (l : List ℕ). p.front ++ l) p.second.parts) ∙ simp append_assoc in
    let one = all_parted is_text p.front (p.second.front ++ (p.second.back ++ spaces)) (ap (list_all is_text) (sym whole) ∙ a) in
    let two = all_parted is_text p.second.front (p.second.back ++ spaces) one.1 in
    record {
      front = p.front;
      back = p.second.front ++ (p.second.back ++ spaces);
      parts = whole;
      first = p.first;
      second = record {
        front = p.second.front;
        back = p.second.back ++ spaces;
        parts = refl;
        first = subst (Some1 is_graphic) (sym p.second.first.0) p.second.first.1;
        second = each_of is_text (p.second.back ++ spaces) two.1;
      };
    }

-- ---- forms

lhlo_sound : (rest : List ℕ) → Stops is_not_space rest → (list_all is_text rest && (length (words rest) == 1)) ≡ true → (Gap ⨾ Some1 is_graphic ⨾ Spaces) rest
lhlo_sound rest s e =
    let k = both_true (list_all is_text rest) (length (words rest) == 1) e in
    let t = tail_sound rest (ap (λ (u : Bool). u && list_all is_text rest) (stop_first rest s) ∙ k.0) in
    subst (Gap ⨾ Some1 is_graphic ⨾ Spaces) (sym t.parts) (one_word (words rest) t.text t.spaces k.1 t.parameters t.blank)

vrfy_sound : (rest : List ℕ) → Stops is_not_space rest → (list_all is_text rest && not (length (words rest) == 0)) ≡ true → (Gap ⨾ Some1 is_graphic ⨾ Many is_text) rest
vrfy_sound rest s e =
    let k = both_true (list_all is_text rest) (not (length (words rest) == 0)) e in
    let t = tail_sound rest (ap (λ (u : Bool). u && list_all is_text rest) (stop_first rest s) ∙ k.0) in
    subst (Gap ⨾ Some1 is_graphic ⨾ Many is_text) (sym t.parts) (some_word (words rest) t.text t.spaces k.1 t.parameters (ap (list_all is_text) (sym t.parts) ∙ k.0))

noop_sound : (rest : List ℕ) → Stops is_not_space rest → list_all is_text rest ≡ true → AfterGap (Many is_text) rest
noop_sound [] s e = inl refl
noop_sound (x ∷ xs) s e =
    let k = both_true (is_text x) (list_all is_text xs) e in
    inr (record { front = x ∷ []; back = xs; parts = refl; first = (omega arith, (not_not (is_space x) s, tt)); second = each_of is_text xs k.1 })

behind : (P : List ℕ → Type 0) (v : Verb) (text rest : List ℕ) → Keyword (name_of v) text → P rest → (Keyword (name_of v) ⨾ P) (text ++ rest)
behind P v text rest h p = record { front = text; back = rest; parts = refl; first = h; second = p }

plain_is : (form : Form) (command : Command) (t : Bool) (line : List ℕ) → cond t (Some (Plain command)) None ≡ Some form → (t ≡ true → Line (Plain command) line) → Line form line
plain_is form command t line e f = let g = guard_some t (Plain command) form e in subst (λ (x : Form). Line x line) g.1 (f g.0)

pub is_line : (v : Verb) (text rest : List ℕ) (form : Form) → Keyword (name_of v) text → Stops is_not_space rest → form_of v rest ≡ Some form → Line form (text ++ rest)
is_line verbs.Lhlo text rest form h s e = plain_is form say.Lhlo _ (text ++ rest) e (λ t. behind (Gap ⨾ Some1 is_graphic ⨾ Spaces) verbs.Lhlo text rest h (lhlo_sound rest s t))
is_line verbs.Mail text rest form h s e =
    let p = addressed_sound (codes "FROM:") reverse_at ReversePath Mail reverse_sound refl rest form s e in
    subst (λ (x : Form). Line x (text ++ rest)) p.is (behind _ verbs.Mail text rest h p.line)
is_line verbs.Rcpt text rest form h s e =
    let p = addressed_sound (codes "TO:") forward_at ForwardPath Rcpt forward_sound refl rest form s e in
    subst (λ (x : Form). Line x (text ++ rest)) p.is (behind _ verbs.Rcpt text rest h p.line)
is_line verbs.Data text rest form h s e = plain_is form say.Data _ (text ++ rest) e (λ t. behind Spaces verbs.Data text rest h (no_words rest t))
is_line verbs.Rset text rest form h s e = plain_is form say.Rset _ (text ++ rest) e (λ t. behind Spaces verbs.Rset text rest h (no_words rest t))
is_line verbs.Quit text rest form h s e = plain_is form say.Quit _ (text ++ rest) e (λ t. behind Spaces verbs.Quit text rest h (no_words rest t))
is_line verbs.Noop text rest form h s e = plain_is form say.Noop _ (text ++ rest) e (λ t. behind (AfterGap (Many is_text)) verbs.Noop text rest h (noop_sound rest s t))
is_line verbs.Vrfy text rest form h s e = plain_is form say.Vrfy _ (text ++ rest) e (λ t. behind (Gap ⨾ Some1 is_graphic ⨾ Many is_text) verbs.Vrfy text rest h (vrfy_sound rest s t))
is_line verbs.Expn text rest form h s e =
    let same : Plain say.Expn ≡ form = cc in
    subst (λ (x : Form). Line x (text ++ rest)) same (behind (AfterGap Anything) verbs.Expn text rest h (stopped_gap rest s))
is_line verbs.Help text rest form h s e =
    let same : Plain say.Help ≡ form = cc in
    subst (λ (x : Form). Line x (text ++ rest)) same (behind (AfterGap Anything) verbs.Help text rest h (stopped_gap rest s))
