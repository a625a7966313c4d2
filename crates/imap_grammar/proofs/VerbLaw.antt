-- The verb at the front of a line: what is spelled is read, and what is read is spelled.
use Rattle.std.proofs.Common.{◌≡◌, ℕ, ◌<◌, Bool, true, false, cond, List, [], ◌∷◌, ◌++◌, length, refl, ap, sym, subst, ◌∙◌, arith, append_assoc, length-append, inl, inr}
use Rattle.std.specs.Prelude.{Option, Some, None, codes, ◌&&◌, not, map}
use Rattle.std.specs.Char.{to_ascii_lowercase}
use Rattle.std.specs.List.{list_all}
use Rattle.std.specs.Str.{bytes_eq, str_eq_ignore_ascii_case as is_same}
use Rattle.envelope.proofs.Begins.{not_not}
use Rattle.envelope.proofs.Case.{is_same_decides}
use Rattle.envelope.proofs.Sound.{bind_some, either}
use Rattle.envelope.proofs.Tails.{each_of, stops_after}
use Rattle.envelope.proofs.Tokens.{Stops}
use Rattle.envelope.proofs.Words.{both_true}
use Rattle.envelope.specs.Bytes.{is_space, is_not_space}
use Rattle.envelope.specs.Grammar.{Some1, Gap, Keyword}
use Rattle.envelope.specs.Reading.{◌>>=◌, after_spaces}
use Rattle.imap_grammar.specs.Grammar.{VerbWords, VerbIs}
use Rattle.imap_grammar.specs.Reading.{word_at, verb_among, or_else, verb_alone, second_at, verb_at}
use Rattle.imap_grammar.specs.Verbs.{word_of, stands_behind_uid, offered, left_out, behind_uid}
use Rattle.imap_grammar.specs.declared.command.Verb.{Verb}
use Rattle.imap_grammar.specs.declared.command.Verb.TheVariants as verbs
use Rattle.imap_grammar.proofs.Keywords.{word_length, word_clean, same_sound}
use Rattle.imap_grammar.proofs.Tokens.{not_true, starts, spaced_first, spaces_over, some_gap, word_again, word_parts}

-- ---- the words of verbs. What holds of each is said of one, and then of any other

alone_known : (v : Verb) → stands_behind_uid v ≡ false → verb_alone (word_of v) ≡ Some v
alone_known verbs.UidFetch e = absurd cc
alone_known verbs.UidStore e = absurd cc
alone_known verbs.UidExpunge e = absurd cc
alone_known verbs.UidCopy e = absurd cc
alone_known verbs.UidMove e = absurd cc
alone_known verbs.UidSearch e = absurd cc
alone_known _ e = refl

uid_known : (v : Verb) → stands_behind_uid v ≡ true → verb_among behind_uid (word_of v) ≡ Some v
uid_known verbs.UidFetch e = refl
uid_known verbs.UidStore e = refl
uid_known verbs.UidExpunge e = refl
uid_known verbs.UidCopy e = refl
uid_known verbs.UidMove e = refl
uid_known verbs.UidSearch e = refl
uid_known _ e = absurd cc

uid_apart : (v : Verb) → is_same (word_of v) (codes "UID") ≡ false
uid_apart verbs.Noop = refl
uid_apart _ = refl

unspaced : (v : Verb) → list_all is_not_space (map to_ascii_lowercase (word_of v)) ≡ true
unspaced verbs.Noop = refl
unspaced _ = refl

some_word : (v : Verb) → 0 < length (word_of v)
some_word verbs.Noop = omega arith
some_word v = omega arith

pub verb_bare : (v : Verb) (text : List ℕ) → Keyword (word_of v) text → Some1 is_not_space text
verb_bare v text h = (let n = word_length (word_of v) text h in omega (arith, n, some_word v), word_clean 32 refl text _ h (each_of is_not_space _ (unspaced v)))

same_verb : (vs : List Verb) (a b : List ℕ) → map to_ascii_lowercase a ≡ map to_ascii_lowercase b → verb_among vs a ≡ verb_among vs b
same_verb [] a b h = refl
same_verb (v ∷ vs) a b h =
    ap (λ l. cond (bytes_eq l (map to_ascii_lowercase (word_of v))) (Some v) (verb_among vs a)) h
    ∙ ap (λ o. cond (is_same b (word_of v)) (Some v) o) (same_verb vs a b h)

same_alone : (a b : List ℕ) → map to_ascii_lowercase a ≡ map to_ascii_lowercase b → verb_alone a ≡ verb_alone b
same_alone a b h = ap (λ o. or_else o (verb_among left_out a)) (same_verb offered a b h) ∙ ap (or_else (verb_among offered b)) (same_verb left_out a b h)

among_case : (test : Verb → Bool) (t : Bool) (v x : Verb) (vs : List Verb) (word : List ℕ) → is_same word (word_of v) ≡ t → (test v && list_all test vs) ≡ true
    → (list_all test vs ≡ true → verb_among vs word ≡ Some x → (test x ≡ true) × Keyword (word_of x) word)
    → cond t (Some v) (verb_among vs word) ≡ Some x → (test x ≡ true) × Keyword (word_of x) word
among_case test true v x vs word e a next h =
    let is : v ≡ x = cc in
    subst (λ y. (test y ≡ true) × Keyword (word_of y) word) is ((both_true (test v) (list_all test vs) a).0, same_sound (word_of v) word e)
among_case test false v x vs word e a next h = next (both_true (test v) (list_all test vs) a).1 h

among_sound : (test : Verb → Bool) (vs : List Verb) (x : Verb) (word : List ℕ) → list_all test vs ≡ true → verb_among vs word ≡ Some x → (test x ≡ true) × Keyword (word_of x) word
among_sound test [] x word a h = absurd cc
among_sound test (v ∷ vs) x word a h = among_case test (is_same word (word_of v)) v x vs word refl a (λ b k. among_sound test vs x word b k) h

abbrev stands_alone : Verb → Bool
stands_alone v = not (stands_behind_uid v)

or_sound : (o p : Option Verb) (x : Verb) (P : Type 0) → or_else o p ≡ Some x → (o ≡ Some x → P) → (p ≡ Some x → P) → P
or_sound (Some v) p x P e f g = f e
or_sound None p x P e f g = g e

alone_sound : (x : Verb) (word : List ℕ) → verb_alone word ≡ Some x → (stands_alone x ≡ true) × Keyword (word_of x) word
alone_sound x word e =
    or_sound (verb_among offered word) (verb_among left_out word) x ((stands_alone x ≡ true) × Keyword (word_of x) word) e
    (λ h. among_sound stands_alone offered x word refl h) (λ h. among_sound stands_alone left_out x word refl h)

-- ---- the verb at the front

with_rest : List ℕ → Verb → Option (Verb × List ℕ)
with_rest rest verb = Some (verb, rest)

begins_alone : (v : Verb) (text rest : List ℕ) → stands_behind_uid v ≡ false → Keyword (word_of v) text → Stops is_not_space rest → verb_at (text ++ rest) ≡ Some (v, rest)
unfolding with_rest
begins_alone v text rest e h s =
    let cut = word_again text rest (verb_bare v text h).1 s in
    let apart : is_same text (codes "UID") ≡ false = ap (λ l. bytes_eq l (map to_ascii_lowercase (codes "UID"))) h ∙ uid_apart v in
    ap (λ (c : List ℕ × List ℕ). cond (is_same c.0 (codes "UID")) (second_at (after_spaces c.1)) (verb_alone c.0 >>= with_rest c.1)) cut
    ∙ ap (λ (t : Bool). cond t (second_at (after_spaces rest)) (verb_alone text >>= with_rest rest)) apart
    ∙ ap (λ o. o >>= with_rest rest) (same_alone text (word_of v) h ∙ alone_known v e)

second_again : (v : Verb) (text rest : List ℕ) → stands_behind_uid v ≡ true → Keyword (word_of v) text → Stops is_not_space rest → second_at (text ++ rest) ≡ Some (v, rest)
unfolding with_rest
second_again v text rest e h s =
    ap (λ (c : List ℕ × List ℕ). verb_among behind_uid c.0 >>= with_rest c.1) (word_again text rest (verb_bare v text h).1 s)
    ∙ ap (λ o. o >>= with_rest rest) (same_verb behind_uid text (word_of v) h ∙ uid_known v e)

uid_bare : (text : List ℕ) → Keyword (codes "UID") text → Some1 is_not_space text
uid_bare text h = (let n = word_length (codes "UID") text h in omega (arith, n), word_clean 32 refl text _ h (refl, (refl, (refl, tt))))

begins_uid : (v : Verb) (u g k rest : List ℕ) → stands_behind_uid v ≡ true → Keyword (codes "UID") u → Gap g → Keyword (word_of v) k → Stops is_not_space rest
    → verb_at (u ++ (g ++ (k ++ rest))) ≡ Some (v, rest)
unfolding with_rest
begins_uid v u g k rest e a b h s =
    let cut = word_again u (g ++ (k ++ rest)) (uid_bare u a).1 (spaced_first g (k ++ rest) b) in
    let same : is_same u (codes "UID") ≡ true = (is_same_decides u (codes "UID")).1 a in
    let over = spaces_over g (k ++ rest) b.1 (starts is_not_space (λ x n. not_true (is_space x) n) k rest (verb_bare v k h)) in
    ap (λ (c : List ℕ × List ℕ). cond (is_same c.0 (codes "UID")) (second_at (after_spaces c.1)) (verb_alone c.0 >>= with_rest c.1)) cut
    ∙ ap (λ (t : Bool). cond t (second_at (after_spaces (g ++ (k ++ rest)))) (verb_alone u >>= with_rest (g ++ (k ++ rest)))) same
    ∙ ap second_at over
    ∙ second_again v k rest e h s

begins_case : (v : Verb) (t : Bool) (text rest : List ℕ) → stands_behind_uid v ≡ t → VerbWords t (word_of v) text → Stops is_not_space rest
    → (verb_at (text ++ rest) ≡ Some (v, rest)) × Stops is_space (text ++ rest)
begins_case v false text rest e h s = (begins_alone v text rest e h s, starts is_not_space (λ x n. not_true (is_space x) n) text rest (verb_bare v text h))
begins_case v true text rest e q s =
    let g = q.second in
    let whole : text ++ rest ≡ q.front ++ (g.front ++ (g.back ++ rest)) =
    ap (λ l. l ++ rest) (q.parts ∙ ap (λ l. q.front ++ l) g.parts) ∙ append_assoc q.front (g.front ++ g.back) rest ∙ ap (λ l. q.front ++ l) (append_assoc g.front g.back rest) in (
      ap verb_at whole ∙ begins_uid v q.front g.front g.back rest e q.first g.first g.second s,
      subst (Stops is_space) (sym whole) (starts is_not_space (λ x n. not_true (is_space x) n) q.front (g.front ++ (g.back ++ rest)) (uid_bare q.front q.first)),
    )

pub verb_begins : (v : Verb) (text rest : List ℕ) → VerbIs v text → Stops is_not_space rest → (verb_at (text ++ rest) ≡ Some (v, rest)) × Stops is_space (text ++ rest)
verb_begins v text rest h s = begins_case v (stands_behind_uid v) text rest refl h s

pub record FoundVerb (bytes rest : List ℕ) (v : Verb) : Type 0 where
  pub text : List ℕ
  pub parts : bytes ≡ text ++ rest
  pub is : VerbIs v text
  pub some : 0 < length text
  pub stops : Stops is_not_space rest

is_words : (v : Verb) (t : Bool) (text : List ℕ) → stands_behind_uid v ≡ t → VerbWords t (word_of v) text → VerbIs v text
is_words v t text e h = subst (λ b. VerbWords b (word_of v) text) (sym e) h

alone_found : (bytes rest word : List ℕ) (v x : Verb) → bytes ≡ word ++ rest → Stops is_not_space rest → verb_alone word ≡ Some x → x ≡ v → FoundVerb bytes rest v
alone_found bytes rest word v x e s h is =
    let k = alone_sound x word h in
    subst (FoundVerb bytes rest) is (record { text = word; parts = e; is = is_words x false word (not_true (stands_behind_uid x) k.0) k.1; some = (verb_bare x word k.1).0; stops = s })

uid_found : (bytes u r y word rest : List ℕ) (v x : Verb) → bytes ≡ u ++ r → Stops is_not_space r → Keyword (codes "UID") u → y ≡ after_spaces r → y ≡ word ++ rest → Stops is_not_space rest
    → verb_among behind_uid word ≡ Some x → x ≡ v → FoundVerb bytes rest v
uid_found bytes u [] y word rest v x e s a f g t h is =
    let k = among_sound stands_behind_uid behind_uid x word refl h in
    let some = (verb_bare x word k.1).0 in
    let none : y ≡ [] = f in
    absurd (omega (arith, some, ap length (sym g ∙ none), length-append word rest))
uid_found bytes u (b ∷ bs) y word rest v x e s a f g t h is =
    let k = among_sound stands_behind_uid behind_uid x word refl h in
    let gap = some_gap b bs (not_not (is_space b) s) in
    let text : List ℕ = u ++ (gap.gap ++ word) in
    let whole : bytes ≡ text ++ rest =
    e ∙ ap (λ l. u ++ l) (gap.parts ∙ ap (λ l. gap.gap ++ l) (sym f ∙ g)) ∙ ap (λ l. u ++ l) (sym (append_assoc gap.gap word rest)) ∙ sym (append_assoc u (gap.gap ++ word) rest) in
    subst (FoundVerb bytes rest) is (record {
      text = text;
      parts = whole;
      is = is_words x true text k.0 (record { front = u; back = gap.gap ++ word; parts = refl; first = a; second = record { front = gap.gap; back = word; parts = refl; first = gap.is; second = k.1 } });
      some = omega (arith, (uid_bare u a).0, length-append u (gap.gap ++ word));
      stops = t;
    })

verb_of : Option (Verb × List ℕ) → Verb
verb_of (Some c) = c.0
verb_of None = verbs.Noop

rest_of : Option (Verb × List ℕ) → List ℕ
rest_of (Some c) = c.1
rest_of None = []

pub verb_sound : (bytes rest : List ℕ) (v : Verb) → verb_at bytes ≡ Some (v, rest) → FoundVerb bytes rest v
unfolding with_rest verb_of rest_of
verb_sound bytes rest v e =
    let w = word_at bytes in
    let y = after_spaces w.1 in
    let whole : Verb × List ℕ = (v, rest) in
    elim (either (is_same w.0 (codes "UID")) (second_at y) (verb_alone w.0 >>= with_rest w.1) (Some whole) e) [
      | inl q ↦
          let k = bind_some (verb_among behind_uid (word_at y).0) (with_rest (word_at y).1) whole q.1 in
          let same : (word_at y).1 ≡ rest = ap rest_of k.2 in
          uid_found bytes w.0 w.1 y (word_at y).0 rest v k.0 (word_parts bytes) (stops_after is_not_space bytes) (same_sound (codes "UID") w.0 q.0) refl
          (word_parts y ∙ ap (λ l. (word_at y).0 ++ l) same) (subst (Stops is_not_space) same (stops_after is_not_space y)) k.1 (ap verb_of k.2)
      | inr q ↦
          let k = bind_some (verb_alone w.0) (with_rest w.1) whole q.1 in
          let same : w.1 ≡ rest = ap rest_of k.2 in
          alone_found bytes rest w.0 v k.0 (word_parts bytes ∙ ap (λ l. w.0 ++ l) same) (subst (Stops is_not_space) same (stops_after is_not_space bytes)) k.1 (ap verb_of k.2)
    ]
