-- The answer to a SEARCH: one line, with numbers or with what its client asked for, which tells a client nothing of messages.
use Rattle.std.proofs.Common.{◌≡◌, ℕ, zero, suc, ◌+◌, ◌<◌, ◌/◌, ◌%◌, ◌==◌, Bool, true, false, List, [], ◌∷◌, ◌++◌, length, refl, ap, sym, subst, ◌∙◌, arith, append_assoc}
use Rattle.std.specs.Prelude.{codes, decimal, nat_lt, Option, Some, None, if◌then◌else◌}
use Rattle.std.specs.Fmt.{digit_glyph, digits, digits_onto}
use Rattle.std.specs.List.{list_all}
use Rattle.std.proofs.lemmas.Bool.{ne_eqb}
use Rattle.std.proofs.lemmas.List.Folds.{list_all-append}
use Rattle.imap_grammar.specs.declared.command.SearchReturns.{SearchReturns}
use Rattle.imap_answers.specs.Answers.{all_item, count_item, extended_answer, extended_items, found_answer, highest, highest_item, if_asked, lowest, lowest_item, search_answer, spaced_numbers, uid_set}
use Rattle.laws_client.specs.Beliefs.{TellsNothing}
use Rattle.laws_client.specs.Client.{Messages, knowing, reads}
use Rattle.laws_client.specs.ListTurns.{is_inner, IsPlain, IsTag}
use Rattle.laws_client.proofs.Reading.{told}
use Rattle.laws_client.proofs.Bytes.{first_of, rest_of}
use Rattle.laws_client.proofs.UidSets.{both_all, set_all}
use Rattle.laws_client.proofs.Untold.{inner_both, line_tells_nothing}

-- a byte that stands within a line, and at its end: no LF, and no brace that ends the count of a literal
is_figure : ℕ → Bool
is_figure b = if b == 125 then false else is_inner b

figure_inner : (b : ℕ) → is_figure b ≡ true → (is_inner b ≡ true) × ((b == 125) ≡ false)
unfolding is_figure
figure_inner b h = by (b == 125) h
  where
    by : (t : Bool) → (if t then false else is_inner b) ≡ true → (is_inner b ≡ true) × (t ≡ false)
    by true e = absurd cc
    by false e = (e, refl)

plain_figures : (b : ℕ) (bs : List ℕ) → list_all is_figure (b ∷ bs) ≡ true → IsPlain (b ∷ bs)
plain_figures b [] h =
    let f = figure_inner b (first_of is_figure b [] h) in
    record { front = []; last = b; is = refl; no_count = f.1; inner = rw f.0 refl }
plain_figures b (c ∷ cs) h = more (plain_figures c cs (rest_of is_figure b (c ∷ cs) h))
  where
    more : IsPlain (c ∷ cs) → IsPlain (b ∷ c ∷ cs)
    more p = record {
      front = b ∷ p.front;
      last = p.last;
      is = ap (λ (xs : List ℕ). b ∷ xs) p.is;
      no_count = p.no_count;
      inner = rw ((figure_inner b (first_of is_figure b (c ∷ cs) h)).0, p.inner) refl;
    }

-- ---- numbers

glyph_figure : (d : ℕ) → d < 10 → is_figure (digit_glyph false d) ≡ true
unfolding is_figure
glyph_figure d h = by (nat_lt d 10)
  where
    by : (b : Bool) → (let g = if b then 48 + d else 87 + d in if g == 125 then false else is_inner g) ≡ true
    by true = rw (ne_eqb (48 + d) 125 (λ e. omega (arith, e, h)), ne_eqb (48 + d) 10 (λ e. omega (arith, e))) refl
    by false = rw (ne_eqb (87 + d) 125 (λ e. omega (arith, e, h)), ne_eqb (87 + d) 10 (λ e. omega (arith, e))) refl

digits_figures : (k n : ℕ) (acc : List ℕ) → list_all is_figure acc ≡ true → list_all is_figure (digits_onto k 10 false n acc) ≡ true
digits_figures zero n acc h = h
digits_figures (suc k) n acc h =
    let more : list_all is_figure (digit_glyph false (n % 10) ∷ acc) ≡ true = rw (glyph_figure (n % 10) (omega arith), h) refl in
    by (n / 10 == 0) more (digits_figures k (n / 10) (digit_glyph false (n % 10) ∷ acc) more)
  where
    by : (b : Bool) → list_all is_figure (digit_glyph false (n % 10) ∷ acc) ≡ true → list_all is_figure (digits_onto k 10 false (n / 10) (digit_glyph false (n % 10) ∷ acc)) ≡ true
        → list_all is_figure (if b then digit_glyph false (n % 10) ∷ acc else digits_onto k 10 false (n / 10) (digit_glyph false (n % 10) ∷ acc)) ≡ true
    by true last more = last
    by false last more = more

decimal_figures : (n : ℕ) → list_all is_figure (decimal n) ≡ true
unfolding digits
decimal_figures n = digits_figures 64 n [] refl

spaced_figures : (numbers : List ℕ) → list_all is_figure (spaced_numbers numbers) ≡ true
unfolding is_figure
spaced_figures [] = refl
spaced_figures (n ∷ ns) = list_all-append is_figure (decimal n) (spaced_numbers ns) ∙ rw (decimal_figures n, spaced_figures ns) refl

-- ---- the line

-- what stands behind these letters
pub found_plain : (numbers : List ℕ) → IsPlain (72 ∷ spaced_numbers numbers)
unfolding is_figure
found_plain numbers = plain_figures 72 (spaced_numbers numbers) (spaced_figures numbers)

numbers_plain : (n : ℕ) (ns : List ℕ) → IsPlain (spaced_numbers (n ∷ ns))
numbers_plain n ns = plain_figures 32 (decimal n ++ spaced_numbers ns) (spaced_figures (n ∷ ns))

numbers_tell_nothing : (numbers : List ℕ) → TellsNothing (search_answer numbers)
numbers_tell_nothing [] messages = refl
numbers_tell_nothing (n ∷ ns) messages =
    let p = numbers_plain n ns in
    ap (λ (l : List ℕ). reads (knowing messages) (codes "* SEARCH" ++ (l ++ (13 ∷ 10 ∷ [])))) p.is
    ∙ line_tells_nothing (codes "* SEARCH" ++ p.front) p.last p.no_count p.inner (λ (o : Messages). ap (λ (l : List ℕ). told (codes "* SEARCH" ++ l) o) (sym p.is)) messages

-- ---- what a search says to return

set_figures : (uids : List ℕ) → list_all is_figure (uid_set uids) ≡ true
unfolding is_figure
set_figures = set_all is_figure (record { digits = decimal_figures; colon = refl; comma = refl })

lowest_figures : (numbers : List ℕ) → list_all is_figure (lowest_item numbers) ≡ true
unfolding is_figure
lowest_figures [] = refl
lowest_figures (n ∷ ns) = both_all is_figure (codes " MIN ") (decimal (lowest n ns)) refl (decimal_figures (lowest n ns))

highest_figures : (numbers : List ℕ) → list_all is_figure (highest_item numbers) ≡ true
unfolding is_figure
highest_figures [] = refl
highest_figures (n ∷ ns) = both_all is_figure (codes " MAX ") (decimal (highest n ns)) refl (decimal_figures (highest n ns))

count_figures : (numbers : List ℕ) → list_all is_figure (count_item numbers) ≡ true
unfolding is_figure
count_figures numbers = both_all is_figure (codes " COUNT ") (decimal (length numbers)) refl (decimal_figures (length numbers))

all_figures : (numbers : List ℕ) → list_all is_figure (all_item numbers) ≡ true
unfolding is_figure
all_figures [] = refl
all_figures (n ∷ ns) = both_all is_figure (codes " ALL ") (uid_set (n ∷ ns)) refl (set_figures (n ∷ ns))

asked_figures : (asked : Bool) (text : List ℕ) → list_all is_figure text ≡ true → list_all is_figure (if_asked asked text) ≡ true
asked_figures true text h = h
asked_figures false text h = refl

-- what stands behind the tag and its quote
pub closed : Bool → List ℕ
closed by_uid = if by_uid then codes ") UID" else codes ")"

abbrev pub returned : Bool → SearchReturns → List ℕ → List ℕ
returned by_uid returns numbers = closed by_uid ++ extended_items returns numbers

closed_figures : (by_uid : Bool) → list_all is_figure (closed by_uid) ≡ true
unfolding is_figure closed
closed_figures true = refl
closed_figures false = refl

returned_figures : (by_uid : Bool) (returns : SearchReturns) (numbers : List ℕ) → list_all is_figure (returned by_uid returns numbers) ≡ true
returned_figures by_uid returns numbers =
    both_all is_figure (closed by_uid) _ (closed_figures by_uid)
    (both_all is_figure (if_asked returns.min (lowest_item numbers) ++ if_asked returns.max (highest_item numbers)) _
    (both_all is_figure (if_asked returns.min (lowest_item numbers)) _ (asked_figures returns.min (lowest_item numbers) (lowest_figures numbers)) (asked_figures returns.max (highest_item numbers) (highest_figures numbers)))
    (both_all is_figure (if_asked returns.count (count_item numbers)) _ (asked_figures returns.count (count_item numbers) (count_figures numbers)) (asked_figures returns.all (all_item numbers) (all_figures numbers))))

pub returned_plain : (by_uid : Bool) (returns : SearchReturns) (numbers : List ℕ) → IsPlain (34 ∷ returned by_uid returns numbers)
unfolding is_figure
returned_plain by_uid returns numbers = plain_figures 34 (returned by_uid returns numbers) (returned_figures by_uid returns numbers)

-- ---- its line

regroup : (a tag b x e : List ℕ) → a ++ tag ++ b ++ x ++ e ≡ (a ++ tag) ++ ((b ++ x) ++ e)
regroup a tag b x e = simp append_assoc refl

-- the line up to its tag, and what stands behind that
pub extended_shape : (tag : List ℕ) (by_uid : Bool) (returns : SearchReturns) (numbers : List ℕ)
    → extended_answer tag by_uid returns numbers ≡ (codes "* ESEARCH (TAG \"" ++ tag) ++ ((34 ∷ returned by_uid returns numbers) ++ codes "\r\n")
unfolding closed
extended_shape tag true returns numbers = regroup (codes "* ESEARCH (TAG \"") tag (codes "\") UID") (extended_items returns numbers) (codes "\r\n")
extended_shape tag false returns numbers = regroup (codes "* ESEARCH (TAG \"") tag (codes "\")") (extended_items returns numbers) (codes "\r\n")

behind_front : (front a b e : List ℕ) → front ++ ((a ++ b) ++ e) ≡ ((front ++ a) ++ b) ++ e
behind_front front a b e = simp append_assoc refl

extended_tells_nothing : (tag : List ℕ) → list_all is_inner tag ≡ true → (by_uid : Bool) (returns : SearchReturns) (numbers : List ℕ) → TellsNothing (extended_answer tag by_uid returns numbers)
extended_tells_nothing tag h by_uid returns numbers =
    let front : List ℕ = codes "* ESEARCH (TAG \"" ++ tag in
    let p = returned_plain by_uid returns numbers in
    subst TellsNothing
    (sym (extended_shape tag by_uid returns numbers ∙ ap (λ (l : List ℕ). front ++ (l ++ codes "\r\n")) p.is ∙ behind_front front p.front (p.last ∷ []) (codes "\r\n")))
    (line_tells_nothing (front ++ p.front) p.last p.no_count
    (ap (list_all is_inner) (append_assoc front p.front (p.last ∷ [])) ∙ inner_both front (p.front ++ p.last ∷ []) (inner_both (codes "* ESEARCH (TAG \"") tag refl h) p.inner) (λ (o : Messages). refl))

pub found_tells_nothing : (tag : List ℕ) → IsTag tag → (by_uid : Bool) (returns : Option SearchReturns) (numbers : List ℕ) → TellsNothing (found_answer tag by_uid returns numbers)
found_tells_nothing tag t by_uid None numbers = numbers_tell_nothing numbers
found_tells_nothing tag t by_uid (Some returns) numbers = extended_tells_nothing tag (ap (list_all is_inner) t.is ∙ t.inner) by_uid returns numbers
