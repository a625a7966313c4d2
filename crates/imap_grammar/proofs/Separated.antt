-- Lists of parts: between commas, and between gaps.
use Rattle.std.proofs.Common.{◌≡◌, ℕ, zero, suc, ◌<◌, true, List, [], ◌∷◌, ◌++◌, length, refl, ap, sym, subst, ◌∙◌, arith, length-append, append_assoc}
use Rattle.std.specs.Prelude.{Option, Some, None, is_some, ◌==◌, ◌&&◌}
use Rattle.std.specs.List.{list_all, slice_split, filter_map, cons_option}
use Rattle.envelope.proofs.Begins.{not_not}
use Rattle.envelope.proofs.Tokens.{Stops}
use Rattle.envelope.proofs.Tails.{stops_after}
use Rattle.envelope.proofs.Words.{both_true, words_gap, words_spaces, append_none}
use Rattle.envelope.specs.Bytes.{is_space, is_not_space}
use Rattle.envelope.specs.Grammar.{Many, Some1, Spaces, Gap, Exactly}
use Rattle.envelope.specs.Reading.{words, after_spaces}
use Rattle.imap_grammar.specs.Cuts.{cut_at}
use Rattle.imap_grammar.specs.Grammar.{Separated}
use Rattle.imap_grammar.specs.Reading.{word_at}
use Rattle.imap_grammar.proofs.Cuts.{is_other, cut_sound, split_clean, split_one, split_cut, split_end}
use Rattle.imap_grammar.proofs.Tokens.{some_gap, word_parts, word_some, spaced_first, blank_first}
use Rattle.imap_grammar.proofs.WordLaws.{word_then}

-- every part says something, and together these
pub record AllRead {A : Type 0} (f : List ℕ → Option A) (parts : List (List ℕ)) (xs : List A) : Type 0 where
  pub all : list_all (λ part. is_some (f part)) parts ≡ true
  pub are : filter_map f parts ≡ xs

pub one_read : {A : Type 0} (f : List ℕ → Option A) (part : List ℕ) (x : A) (parts : List (List ℕ)) (xs : List A) → f part ≡ Some x → AllRead f parts xs → AllRead f (part ∷ parts) (x ∷ xs)
one_read f part x parts xs e r = record {
  all = ap (λ o. is_some o && list_all (λ p. is_some (f p)) parts) e ∙ r.all;
  are = ap (λ o. cons_option o (filter_map f parts)) e ∙ ap (λ l. x ∷ l) r.are;
}

pub said : {A : Type 0} (o : Option A) → is_some o ≡ true → (x : A) × (o ≡ Some x)
said (Some x) e = (x, refl)
said None e = absurd cc

-- ---- between two of which one byte stands

pub parts_again : {A : Type 0} (c : ℕ) (f : List ℕ → Option A) (P : A → List ℕ → Type 0) → ((x : A) (t : List ℕ) → P x t → f t ≡ Some x)
    → ((x : A) (t : List ℕ) → P x t → Many (is_other c) t) → (x : A) (xs : List A) (text : List ℕ)
    → Separated (Exactly (c ∷ [])) P (x ∷ xs) text → AllRead f (slice_split (λ b. b == c) text) (x ∷ xs)
parts_again c f P again clean x [] text q =
    let whole : text ≡ q.front = q.parts ∙ ap (λ (l : List ℕ). q.front ++ l) q.second ∙ append_none q.front in
    let split : slice_split (λ b. b == c) text ≡ q.front ∷ [] = ap (slice_split (λ b. b == c)) whole ∙ split_one c q.front (clean x q.front q.first) in
    subst (λ (ps : List (List ℕ)). AllRead f ps (x ∷ [])) (sym split) (one_read f q.front x [] [] (again x q.front q.first) (record { all = refl; are = refl }))
parts_again c f P again clean x (y ∷ ys) text q =
    let rest = q.second.back in
    let whole : text ≡ q.front ++ c ∷ rest = q.parts ∙ ap (λ (l : List ℕ). q.front ++ l) (q.second.parts ∙ ap (λ (l : List ℕ). l ++ rest) q.second.first) in
    let split : slice_split (λ b. b == c) text ≡ q.front ∷ slice_split (λ b. b == c) rest = ap (slice_split (λ b. b == c)) whole ∙ split_clean c q.front rest (clean x q.front q.first) in
    subst (λ (ps : List (List ℕ)). AllRead f ps (x ∷ y ∷ ys)) (sym split)
    (one_read f q.front x (slice_split (λ b. b == c) rest) (y ∷ ys) (again x q.front q.first) (parts_again c f P again clean y ys rest q.second.second))

-- a text whose parts were all read
pub record FoundParts {A : Type 0} (f : List ℕ → Option A) (P : A → List ℕ → Type 0) (between : List ℕ → Type 0) (parts : List (List ℕ)) (text : List ℕ) : Type 0 where
  pub first : A
  pub others : List A
  pub are : filter_map f parts ≡ first ∷ others
  pub is : Separated between P (first ∷ others) text

one_part : {A : Type 0} (c : ℕ) (f : List ℕ → Option A) (P : A → List ℕ → Type 0) → ((x : A) (t : List ℕ) → f t ≡ Some x → P x t)
    → (text : List ℕ) → (is_some (f text) && true) ≡ true → FoundParts f P (Exactly (c ∷ [])) (text ∷ []) text
one_part c f P sound text h =
    let k = said (f text) (both_true (is_some (f text)) true h).0 in
    record {
      first = k.0;
      others = [];
      are = ap (λ o. cons_option o []) k.1;
      is = record { front = text; back = []; parts = sym (append_none text); first = sound k.0 text k.1; second = refl };
    }

more_parts : {A : Type 0} (c : ℕ) (f : List ℕ → Option A) (P : A → List ℕ → Type 0) → ((x : A) (t : List ℕ) → f t ≡ Some x → P x t)
    → (part rest : List ℕ) (parts : List (List ℕ)) → is_some (f part) ≡ true → FoundParts f P (Exactly (c ∷ [])) parts rest
    → FoundParts f P (Exactly (c ∷ [])) (part ∷ parts) (part ++ c ∷ rest)
more_parts c f P sound part rest parts h r =
    let k = said (f part) h in
    record {
      first = k.0;
      others = r.first ∷ r.others;
      are = ap (λ o. cons_option o (filter_map f parts)) k.1 ∙ ap (λ l. k.0 ∷ l) r.are;
      is = record {
        front = part;
        back = c ∷ rest;
        parts = refl;
        first = sound k.0 part k.1;
        second = record { front = c ∷ []; back = rest; parts = refl; first = refl; second = r.is };
      };
    }

cut_parts : {A : Type 0} (c : ℕ) (f : List ℕ → Option A) (P : A → List ℕ → Type 0) → ((x : A) (t : List ℕ) → f t ≡ Some x → P x t)
    → (text : List ℕ) (o : Option (List ℕ × List ℕ)) → cut_at c text ≡ o → list_all (λ p. is_some (f p)) (slice_split (λ b. b == c) text) ≡ true
    → ((rest : List ℕ) → length rest < length text → list_all (λ p. is_some (f p)) (slice_split (λ b. b == c) rest) ≡ true → FoundParts f P (Exactly (c ∷ [])) (slice_split (λ b. b == c) rest) rest)
    → FoundParts f P (Exactly (c ∷ [])) (slice_split (λ b. b == c) text) text
cut_parts c f P sound text None e h again =
    let s : slice_split (λ b. b == c) text ≡ text ∷ [] = split_end c text e in
    subst (λ ps. FoundParts f P (Exactly (c ∷ [])) ps text) (sym s) (one_part c f P sound text (ap (list_all (λ p. is_some (f p))) (sym s) ∙ h))
cut_parts c f P sound text (Some cut) e h again =
    let s : slice_split (λ b. b == c) text ≡ cut.0 ∷ slice_split (λ b. b == c) cut.1 = split_cut c text cut.0 cut.1 e in
    let k = cut_sound c text cut.0 cut.1 e in
    let b = both_true (is_some (f cut.0)) (list_all (λ p. is_some (f p)) (slice_split (λ b. b == c) cut.1)) (ap (list_all (λ p. is_some (f p))) (sym s) ∙ h) in
    let size : length cut.1 < length text = omega (arith, ap length k.whole, length-append cut.0 (c ∷ cut.1)) in
    subst (λ ps. FoundParts f P (Exactly (c ∷ [])) ps text) (sym s)
    (subst (λ t. FoundParts f P (Exactly (c ∷ [])) (cut.0 ∷ slice_split (λ b. b == c) cut.1) t) (sym k.whole)
    (more_parts c f P sound cut.0 cut.1 (slice_split (λ b. b == c) cut.1) b.0 (again cut.1 size b.1)))

parts_within : {A : Type 0} (c : ℕ) (f : List ℕ → Option A) (P : A → List ℕ → Type 0) → ((x : A) (t : List ℕ) → f t ≡ Some x → P x t)
    → (n : ℕ) (text : List ℕ) → length text < n → list_all (λ p. is_some (f p)) (slice_split (λ b. b == c) text) ≡ true
    → FoundParts f P (Exactly (c ∷ [])) (slice_split (λ b. b == c) text) text
parts_within c f P sound zero text lt h = absurd (omega (arith, lt))
parts_within c f P sound (suc n) text lt h =
    cut_parts c f P sound text (cut_at c text) refl h (λ rest size all. parts_within c f P sound n rest (omega (arith, lt, size)) all)

pub parts_sound : {A : Type 0} (c : ℕ) (f : List ℕ → Option A) (P : A → List ℕ → Type 0) → ((x : A) (t : List ℕ) → f t ≡ Some x → P x t)
    → (text : List ℕ) → list_all (λ p. is_some (f p)) (slice_split (λ b. b == c) text) ≡ true → FoundParts f P (Exactly (c ∷ [])) (slice_split (λ b. b == c) text) text
parts_sound c f P sound text h = parts_within c f P sound (suc (length text)) text (omega arith) h

-- ---- between gaps

pub words_again : {A : Type 0} (f : List ℕ → Option A) (P : A → List ℕ → Type 0) → ((x : A) (t : List ℕ) → P x t → f t ≡ Some x)
    → ((x : A) (t : List ℕ) → P x t → Some1 is_not_space t) → (x : A) (xs : List A) (text sp : List ℕ)
    → Separated Gap P (x ∷ xs) text → Spaces sp → AllRead f (words (text ++ sp)) (x ∷ xs)
words_again f P again bare x [] text sp q s =
    let whole : text ≡ q.front = q.parts ∙ ap (λ (l : List ℕ). q.front ++ l) q.second ∙ append_none q.front in
    let split : words (text ++ sp) ≡ q.front ∷ [] =
    ap (λ (l : List ℕ). words (l ++ sp)) whole ∙ word_then q.front sp (bare x q.front q.first) (blank_first sp s) ∙ ap (λ (l : List (List ℕ)). q.front ∷ l) (words_spaces sp s) in
    subst (λ (ps : List (List ℕ)). AllRead f ps (x ∷ [])) (sym split) (one_read f q.front x [] [] (again x q.front q.first) (record { all = refl; are = refl }))
words_again f P again bare x (y ∷ ys) text sp q s =
    let gap = q.second.front in
    let rest = q.second.back in
    let whole : text ++ sp ≡ q.front ++ (gap ++ (rest ++ sp)) =
    ap (λ (l : List ℕ). l ++ sp) (q.parts ∙ ap (λ (l : List ℕ). q.front ++ l) q.second.parts) ∙ append_assoc q.front (gap ++ rest) sp ∙ ap (λ (l : List ℕ). q.front ++ l) (append_assoc gap rest sp) in
    let split : words (text ++ sp) ≡ q.front ∷ words (rest ++ sp) =
    ap words whole ∙ word_then q.front (gap ++ (rest ++ sp)) (bare x q.front q.first) (spaced_first gap (rest ++ sp) q.second.first)
    ∙ ap (λ (l : List (List ℕ)). q.front ∷ l) (words_gap gap (rest ++ sp) q.second.first.1) in
    subst (λ (ps : List (List ℕ)). AllRead f ps (x ∷ y ∷ ys)) (sym split)
    (one_read f q.front x (words (rest ++ sp)) (y ∷ ys) (again x q.front q.first) (words_again f P again bare y ys rest sp q.second.second s))

-- a text whose words were all read, and the spaces behind it
pub record FoundWords {A : Type 0} (W : List ℕ → List (List ℕ)) (f : List ℕ → Option A) (P : A → List ℕ → Type 0) (bytes : List ℕ) : Type 0 where
  pub text : List ℕ
  pub spaces : List ℕ
  pub parts : bytes ≡ text ++ spaces
  pub blank : Spaces spaces
  pub found : FoundParts f P Gap (W bytes) text

pub last_word : {A : Type 0} (W : List ℕ → List (List ℕ)) (f : List ℕ → Option A) (P : A → List ℕ → Type 0) → ((x : A) (t : List ℕ) → f t ≡ Some x → P x t)
    → (bytes w sp : List ℕ) → bytes ≡ w ++ sp → Spaces sp → W bytes ≡ w ∷ [] → is_some (f w) ≡ true → FoundWords W f P bytes
last_word W f P sound bytes w sp e s split h =
    let k = said (f w) h in
    record {
      text = w;
      spaces = sp;
      parts = e;
      blank = s;
      found = record {
        first = k.0;
        others = [];
        are = ap (filter_map f) split ∙ ap (λ o. cons_option o []) k.1;
        is = record { front = w; back = []; parts = sym (append_none w); first = sound k.0 w k.1; second = refl };
      };
    }

pub next_words : {A : Type 0} (W : List ℕ → List (List ℕ)) (f : List ℕ → Option A) (P : A → List ℕ → Type 0) → ((x : A) (t : List ℕ) → f t ≡ Some x → P x t)
    → (bytes w gap rest : List ℕ) → bytes ≡ w ++ (gap ++ rest) → Gap gap → W bytes ≡ w ∷ W rest → is_some (f w) ≡ true → FoundWords W f P rest → FoundWords W f P bytes
next_words W f P sound bytes w gap rest e g split h r =
    let k = said (f w) h in
    let q = r.found in
    record {
      text = w ++ (gap ++ r.text);
      spaces = r.spaces;
      parts = e ∙ ap (λ (l : List ℕ). w ++ (gap ++ l)) r.parts ∙ sym (append_assoc w (gap ++ r.text) r.spaces ∙ ap (λ (l : List ℕ). w ++ l) (append_assoc gap r.text r.spaces));
      blank = r.blank;
      found = record {
        first = k.0;
        others = q.first ∷ q.others;
        are = ap (filter_map f) split ∙ ap (λ o. cons_option o (filter_map f (W rest))) k.1 ∙ ap (λ l. k.0 ∷ l) q.are;
        is = record {
          front = w;
          back = gap ++ r.text;
          parts = refl;
          first = sound k.0 w k.1;
          second = record { front = gap; back = r.text; parts = refl; first = g; second = q.is };
        };
      };
    }

after_word : {A : Type 0} (f : List ℕ → Option A) (P : A → List ℕ → Type 0) → ((x : A) (t : List ℕ) → f t ≡ Some x → P x t)
    → (bytes w gap y : List ℕ) → bytes ≡ w ++ (gap ++ y) → Gap gap → Stops is_space y → words bytes ≡ w ∷ words y → is_some (f w) ≡ true
    → list_all (λ p. is_some (f p)) (words y) ≡ true
    → (0 < length y → FoundWords words f P y) → FoundWords words f P bytes
after_word f P sound bytes w gap [] e g s split h all again =
    last_word words f P sound bytes w gap (e ∙ ap (λ (l : List ℕ). w ++ l) (append_none gap)) g.1 split h
after_word f P sound bytes w gap (c ∷ cs) e g s split h all again = next_words words f P sound bytes w gap (c ∷ cs) e g split h (again (omega arith))

past_word : {A : Type 0} (f : List ℕ → Option A) (P : A → List ℕ → Type 0) → ((x : A) (t : List ℕ) → f t ≡ Some x → P x t)
    → (bytes w rest : List ℕ) → bytes ≡ w ++ rest → Some1 is_not_space w → Stops is_not_space rest → list_all (λ p. is_some (f p)) (words bytes) ≡ true
    → ((y : List ℕ) → length y < length bytes → Stops is_space y → 0 < length y → list_all (λ p. is_some (f p)) (words y) ≡ true → FoundWords words f P y) → FoundWords words f P bytes
past_word f P sound bytes w [] e o s h again =
    let split : words bytes ≡ w ∷ [] = ap words e ∙ word_then w [] o tt in
    let b = both_true (is_some (f w)) true (ap (list_all (λ p. is_some (f p))) (sym split) ∙ h) in
    last_word words f P sound bytes w [] e tt split b.0
past_word f P sound bytes w (r ∷ rs) e o s h again =
    let rest = r ∷ rs in
    let g = some_gap r rs (not_not (is_space r) s) in
    let y = after_spaces rest in
    let split : words bytes ≡ w ∷ words y =
    ap words e ∙ word_then w rest o s ∙ ap (λ (l : List (List ℕ)). w ∷ l) (ap words g.parts ∙ words_gap g.gap y g.is.1) in
    let b = both_true (is_some (f w)) (list_all (λ p. is_some (f p)) (words y)) (ap (list_all (λ p. is_some (f p))) (sym split) ∙ h) in
    let size : length y < length bytes = omega (arith, ap length e, length-append w rest, ap length g.parts, length-append g.gap y, g.is.0) in
    after_word f P sound bytes w g.gap y (e ∙ ap (λ (l : List ℕ). w ++ l) g.parts) g.is g.stops split b.0 b.1 (λ some. again y size g.stops some b.1)

words_within : {A : Type 0} (f : List ℕ → Option A) (P : A → List ℕ → Type 0) → ((x : A) (t : List ℕ) → f t ≡ Some x → P x t)
    → (n : ℕ) (bytes : List ℕ) → length bytes < n → Stops is_space bytes → 0 < length bytes → list_all (λ p. is_some (f p)) (words bytes) ≡ true → FoundWords words f P bytes
words_within f P sound zero bytes lt s some h = absurd (omega (arith, lt))
words_within f P sound (suc n) bytes lt s some h =
    past_word f P sound bytes (word_at bytes).0 (word_at bytes).1 (word_parts bytes) (word_some bytes some s) (stops_after is_not_space bytes) h
    (λ y size t more all. words_within f P sound n y (omega (arith, lt, size)) t more all)

pub words_sound : {A : Type 0} (f : List ℕ → Option A) (P : A → List ℕ → Type 0) → ((x : A) (t : List ℕ) → f t ≡ Some x → P x t)
    → (bytes : List ℕ) → Stops is_space bytes → 0 < length bytes → list_all (λ p. is_some (f p)) (words bytes) ≡ true → FoundWords words f P bytes
words_sound f P sound bytes s some h = words_within f P sound (suc (length bytes)) bytes (omega arith) s some h
