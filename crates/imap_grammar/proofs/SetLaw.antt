-- Numbers, ranges and sets: what is spelled is read, and what is read is spelled.
use Rattle.std.proofs.Common.{◌≡◌, ℕ, suc, ◌<◌, ◌≤◌, Bool, true, false, cond, List, [], ◌∷◌, ◌++◌, length, refl, ap, sym, subst, ◌∙◌, arith, inl, inr}
use Rattle.std.specs.Prelude.{Option, Some, None, is_some, ◌==◌, ◌&&◌, ◌||◌, not, nat_le}
use Rattle.std.specs.List.{list_all, slice_split}
use Rattle.std.proofs.lemmas.Bool.Decides.{Decides-eqb, nat_tests}
use Rattle.envelope.proofs.Case.{decides_false}
use Rattle.envelope.proofs.Sound.{bind_some, guard_some, either, first_cons}
use Rattle.envelope.proofs.Tails.{each_of}
use Rattle.envelope.proofs.Tokens.{first_not}
use Rattle.envelope.proofs.Words.{both_true, all_of, is_both}
use Rattle.envelope.specs.Bytes.{is_not_space}
use Rattle.envelope.specs.Grammar.{Many, Some1, Exactly}
use Rattle.envelope.specs.Reading.{◌>>=◌, first_is}
use Rattle.imap_grammar.specs.Bytes.{is_digit, is_comma}
use Rattle.imap_grammar.specs.Cuts.{cut_at}
use Rattle.imap_grammar.specs.Numbers.{number_of, are_digits, number_up_to}
use Rattle.imap_grammar.specs.Sets.{is_star, seq_number_of, range_of_cut, range_of, ranges_of}
use Rattle.imap_grammar.specs.Grammar.{Digits, SeqNumberIs, RangeIs, SetIs, Others}
use Rattle.imap_grammar.specs.Sets.{set_at}
use Rattle.imap_grammar.specs.declared.set.SeqNumber.{SeqNumber}
use Rattle.imap_grammar.specs.declared.set.SeqNumber.TheVariants.{Number, Star}
use Rattle.imap_grammar.specs.declared.set.SeqRange.{SeqRange}
use Rattle.imap_grammar.proofs.Cuts.{is_other, cut_sound, cut_again, clean_none}
use Rattle.imap_grammar.proofs.Tokens.{excludes, many_map, many_joined}
use Rattle.imap_grammar.proofs.Separated.{parts_again, parts_sound}

-- ---- numbers

has_some : (w : List ℕ) → 0 < length w → not (length w == 0) ≡ true
has_some w h = ap not (decides_false (length w == 0) (Decides-eqb (length w) 0) (λ e. omega arith))

some_of : (w : List ℕ) → not (length w == 0) ≡ true → 0 < length w
some_of [] e = absurd cc
some_of (x ∷ xs) e = omega arith

pub number_again : (most n : ℕ) (text : List ℕ) → Digits n text → n ≤ most → number_up_to most text ≡ Some n
number_again most n text h le =
    let digits : are_digits text ≡ true = is_both (list_all is_digit text) (not (length text == 0)) (all_of is_digit is_digit text (λ b e. e) h.0.1) (has_some text h.0.0) in
    let small : nat_le n most ≡ true = grind (arith, nat_tests) in
    ap (λ (k : ℕ). cond (are_digits text && nat_le k most) (Some k) None) h.1
    ∙ ap (λ (t : Bool). cond t (Some n) None) (is_both (are_digits text) (nat_le n most) digits small)

pub number_sound : (most n : ℕ) (text : List ℕ) → number_up_to most text ≡ Some n → Digits n text × (n ≤ most)
number_sound most n text e =
    let k = guard_some (are_digits text && nat_le (number_of text) most) (number_of text) n e in
    let b = both_true (are_digits text) (nat_le (number_of text) most) k.0 in
    let d = both_true (list_all is_digit text) (not (length text == 0)) b.0 in
    let small : nat_le n most ≡ true = ap (λ (j : ℕ). nat_le j most) (sym k.1) ∙ b.1 in
    let le : n ≤ most = grind (arith, nat_tests) in
    (((some_of text d.1, each_of is_digit text d.0), k.1), le)

-- ---- numbers in sets

-- a byte of a set
abbrev pub is_seq : ℕ → Bool
is_seq b = is_digit b || (b == 42)

abbrev pub is_range : ℕ → Bool
is_range b = is_seq b || (b == 58)

or_first : (a b : Bool) → a ≡ true → (a || b) ≡ true
or_first true b e = refl
or_first false b e = absurd cc

seq_bytes : (n : SeqNumber) (text : List ℕ) → SeqNumberIs n text → Some1 is_seq text
seq_bytes Star text e = subst (Some1 is_seq) (sym e) (omega arith, (refl, tt))
seq_bytes (Number n) text h = (h.0.0.0, many_map is_digit is_seq (λ b e. or_first (is_digit b) (b == 42) e) text h.0.0.1)

zero_first : (text : List ℕ) → ((rest : List ℕ) → text ≡ 48 ∷ rest → ⊥) → first_is 48 text ≡ false
zero_first text f = at (first_is 48 text) refl
  where
    at : (t : Bool) → first_is 48 text ≡ t → t ≡ false
    at true e = absurd (f _ (first_cons 48 text e))
    at false e = refl

pub seq_again : (n : SeqNumber) (text : List ℕ) → SeqNumberIs n text → seq_number_of text ≡ Some n
seq_again Star text e = ap seq_number_of e
seq_again (Number n) text h =
    let star : first_is 42 text ≡ false = ap (first_is 42) (sym (append_nil text)) ∙ first_not is_digit 42 text [] refl h.0.0 in
    ap (λ (t : Bool). cond (t && (length text == 1)) (Some Star) (cond (first_is 48 text) None (number_up_to 4294967295 text >>= (λ k. Some (Number k))))) star
    ∙ ap (λ (t : Bool). cond t None (number_up_to 4294967295 text >>= (λ k. Some (Number k)))) (zero_first text h.2)
    ∙ ap (λ o. o >>= (λ k. Some (Number k))) (number_again 4294967295 n text h.0 h.1)
  where
    append_nil : (l : List ℕ) → l ++ [] ≡ l
    append_nil [] = refl
    append_nil (x ∷ xs) = ap (λ l. x ∷ l) (append_nil xs)

star_sound : (text : List ℕ) → is_star text ≡ true → text ≡ 42 ∷ []
star_sound [] e = absurd cc
star_sound (x ∷ []) e = ap (λ (y : ℕ). y ∷ []) ((Decides-eqb x 42).0 (both_true (x == 42) true e).0)
star_sound (x ∷ y ∷ xs) e = absurd (long (length xs) (both_true (x == 42) (suc (suc (length xs)) == 1) e).1)
  where
    long : (n : ℕ) → (suc (suc n) == 1) ≡ true → ⊥
    long n k = let same : suc (suc n) ≡ 1 = (Decides-eqb (suc (suc n)) 1).0 k in omega (arith, same)

number_found : (n : SeqNumber) (text : List ℕ) → first_is 48 text ≡ false → (number_up_to 4294967295 text >>= (λ k. Some (Number k))) ≡ Some n → SeqNumberIs n text
number_found n text z e =
    let k = bind_some (number_up_to 4294967295 text) (λ j. Some (Number j)) n e in
    let s = number_sound 4294967295 k.0 text k.1 in
    let is : Number k.0 ≡ n = cc in
    subst (λ m. SeqNumberIs m text) is (s.0, s.1, λ rest h. let f : first_is 48 text ≡ true = ap (first_is 48) h in absurd cc)

pub seq_sound : (n : SeqNumber) (text : List ℕ) → seq_number_of text ≡ Some n → SeqNumberIs n text
seq_sound n text e =
    elim (either (is_star text) (Some Star) (cond (first_is 48 text) None (number_up_to 4294967295 text >>= (λ k. Some (Number k)))) (Some n) e) [
      | inl q ↦ let is : Star ≡ n = cc in subst (λ m. SeqNumberIs m text) is (star_sound text q.0)
      | inr q ↦
          elim (either (first_is 48 text) None (number_up_to 4294967295 text >>= (λ k. Some (Number k))) (Some n) q.1) [
            | inl r ↦ absurd (let bad : None ≡ Some n = r.1 in cc)
            | inr r ↦ number_found n text r.0 r.1
          ]
    ]

-- ---- ranges

colon_free : (text : List ℕ) → Some1 is_seq text → Many (is_other 58) text
colon_free text h = many_map is_seq (is_other 58) (λ b e. excludes is_seq 58 refl b e) text h.1

pub range_again : (r : SeqRange) (text : List ℕ) → RangeIs r text → range_of text ≡ Some r
range_again r text (inl h) =
    ap (range_of_cut text) (clean_none 58 text (colon_free text (seq_bytes r.from text h.0)))
    ∙ ap (λ o. o >>= (λ n. let both : SeqRange = record { from = n; to = n } in Some both)) (seq_again r.from text h.0)
    ∙ ap (λ n. let one : SeqRange = record { from = r.from; to = n } in Some one) (sym h.1)
range_again r text (inr q) =
    let a = q.front in
    let b = q.second.back in
    let whole : text ≡ a ++ 58 ∷ b = q.parts ∙ ap (λ l. a ++ l) (q.second.parts ∙ ap (λ l. l ++ b) q.second.first) in
    let cut : cut_at 58 text ≡ Some (a, b) = ap (cut_at 58) whole ∙ cut_again 58 a b (colon_free a (seq_bytes r.from a q.first)) in
    ap (range_of_cut text) cut
    ∙ ap (λ o. o >>= (λ m. seq_number_of b >>= (λ n. let one : SeqRange = record { from = m; to = n } in Some one))) (seq_again r.from a q.first)
    ∙ ap (λ o. o >>= (λ n. let one : SeqRange = record { from = r.from; to = n } in Some one)) (seq_again r.to b q.second.second)

range_case : (r : SeqRange) (text : List ℕ) (o : Option (List ℕ × List ℕ)) → cut_at 58 text ≡ o → range_of_cut text o ≡ Some r → RangeIs r text
range_case r text None e h =
    let k = bind_some (seq_number_of text) (λ n. let both : SeqRange = record { from = n; to = n } in Some both) r h in
    let both : SeqRange = record { from = k.0; to = k.0 } in
    let is : both ≡ r = cc in
    subst (λ s. RangeIs s text) is (inl (seq_sound k.0 text k.1, refl))
range_case r text (Some c) e h =
    let k = bind_some (seq_number_of c.0) (λ m. seq_number_of c.1 >>= (λ n. let one : SeqRange = record { from = m; to = n } in Some one)) r h in
    let j = bind_some (seq_number_of c.1) (λ n. let one : SeqRange = record { from = k.0; to = n } in Some one) r k.2 in
    let one : SeqRange = record { from = k.0; to = j.0 } in
    let is : one ≡ r = cc in
    let w = cut_sound 58 text c.0 c.1 e in
    subst (λ s. RangeIs s text) is (inr (record {
      front = c.0;
      back = 58 ∷ c.1;
      parts = w.whole;
      first = seq_sound k.0 c.0 k.1;
      second = record { front = 58 ∷ []; back = c.1; parts = refl; first = refl; second = seq_sound j.0 c.1 j.1 };
    }))

pub range_sound : (r : SeqRange) (text : List ℕ) → range_of text ≡ Some r → RangeIs r text
range_sound r text e = range_case r text (cut_at 58 text) refl e

range_bytes : (r : SeqRange) (text : List ℕ) → RangeIs r text → Some1 is_range text
range_bytes r text (inl h) =
    let s = seq_bytes r.from text h.0 in
    (s.0, many_map is_seq is_range (λ b e. or_first (is_seq b) (b == 58) e) text s.1)
range_bytes r text (inr q) =
    let a = q.front in
    let b = q.second.back in
    let whole : text ≡ a ++ 58 ∷ b = q.parts ∙ ap (λ l. a ++ l) (q.second.parts ∙ ap (λ l. l ++ b) q.second.first) in
    let s = seq_bytes r.from a q.first in
    let t = seq_bytes r.to b q.second.second in
    let up : (x : ℕ) → is_seq x ≡ true → is_range x ≡ true = λ x e. or_first (is_seq x) (x == 58) e in
    subst (Some1 is_range) (sym whole) (first_some a (58 ∷ b) s.0, many_joined is_range a (58 ∷ b) (many_map is_seq is_range up a s.1) (refl, many_map is_seq is_range up b t.1))
  where
    first_some : (x y : List ℕ) → 0 < length x → 0 < length (x ++ y)
    first_some [] y h = absurd (omega (arith, h))
    first_some (z ∷ x) y h = omega arith

-- ---- sets

pub set_again : (s : List SeqRange) (text : List ℕ) → SetIs s text → set_at text ≡ Some s
set_again [] text h = absurd h
set_again (r ∷ rs) text h =
    let k = parts_again 44 range_of RangeIs range_again (λ x t p. many_map is_range (is_other 44) (λ b e. excludes is_range 44 refl b e) t (range_bytes x t p).1) r rs text h in
    ap (λ (t : Bool). cond t (Some (ranges_of text)) None) k.all ∙ ap (λ l. Some l) k.are

pub set_sound : (s : List SeqRange) (text : List ℕ) → set_at text ≡ Some s → SetIs s text
set_sound s text e =
    let k = guard_some (list_all (λ part. is_some (range_of part)) (slice_split is_comma text)) (ranges_of text) s e in
    let f = parts_sound 44 range_of RangeIs range_sound text k.0 in
    subst (λ l. SetIs l text) (sym f.are ∙ k.1) f.is

-- a byte of a set
abbrev pub is_set : ℕ → Bool
is_set b = is_range b || (b == 44)

range_set : (text : List ℕ) → Many is_range text → Many is_set text
range_set text h = many_map is_range is_set (λ b e. or_first (is_range b) (b == 44) e) text h

others_bytes : (rs : List SeqRange) (text : List ℕ) → Others (Exactly (44 ∷ [])) RangeIs rs text → Many is_set text
others_bytes [] text e = subst (Many is_set) (sym e) tt
others_bytes (r ∷ rs) text q =
    subst (Many is_set) (sym q.parts)
    (many_joined is_set q.front q.back (subst (Many is_set) (sym q.first) (refl, tt))
    (subst (Many is_set) (sym q.second.parts)
    (many_joined is_set q.second.front q.second.back (range_set q.second.front (range_bytes r q.second.front q.second.first).1) (others_bytes rs q.second.back q.second.second))))

pub set_all : (s : List SeqRange) (text : List ℕ) → SetIs s text → Some1 is_set text
set_all [] text h = absurd h
set_all (r ∷ rs) text q =
    let a = range_bytes r q.front q.first in
    let all : Many is_set text = subst (Many is_set) (sym q.parts) (many_joined is_set q.front q.back (range_set q.front a.1) (others_bytes rs q.back q.second)) in
    (subst (λ l. 0 < length l) (sym q.parts) (first_some q.front q.back a.0), all)
  where
    first_some : (x y : List ℕ) → 0 < length x → 0 < length (x ++ y)
    first_some [] y h = absurd (omega (arith, h))
    first_some (z ∷ x) y h = omega arith

pub set_bytes : (s : List SeqRange) (text : List ℕ) → SetIs s text → Some1 is_not_space text
set_bytes s text h =
    let k = set_all s text h in
    (k.0, many_map is_set is_not_space (λ b e. excludes is_set 32 refl b e) text k.1)
