-- A part of a line: bytes before its end, with or without it; and what was read by then.
use Rattle.std.proofs.Common.{◌≡◌, ◌≢◌, ℕ, zero, suc, ◌+◌, ◌-◌, ◌<◌, ◌≤◌, ◌==◌, nat_lt, Bool, true, false, cond, if◌then◌else◌, List, [], ◌∷◌, ◌++◌, length, take, slice_index, refl, sym, ap, subst, ◌∙◌, arith, rules, eq-eqb, ne_eqb, append_assoc, append-nil, length-append, length-take-le, Option, Some, None, IfSome, inl, inr}
use Rattle.std.specs.Io.BufRead.{drop_through, ends_with_byte, strip_last, take_through}
use Rattle.std.specs.Io.KnownBytes.{Consumes}
use Rattle.std.proofs.BufReadLemmas.{take_through-nil}
use Rattle.std.proofs.Math.Seq.{take-append-le, take-take}
use Rattle.script.specs.Script.{Skip, Bad, asked, line_of, most_bytes, request_of}
use Rattle.script.specs.inner.Kept.{HasRead, IsPart, IsKept, behind_line, most_kept, still_to_come}

line_goes_on : (xs ys : List ℕ) (n : ℕ) → n ≤ length xs → ((k : ℕ) → k < n → slice_index xs k ≢ 10)
    → take_through 10 (take n xs ++ ys) ≡ take n xs ++ take_through 10 ys
line_goes_on xs ys zero within before = refl
line_goes_on [] ys (suc n) within before = absurd (omega (arith, within))
line_goes_on (x ∷ xs) ys (suc n) within before =
    ap (λ b. cond b (x ∷ []) (x ∷ take_through 10 (take n xs ++ ys))) (ne_eqb x 10 (before 0 (omega arith)))
    ∙ ap (λ l. x ∷ l) (line_goes_on xs ys n (omega (arith, within)) (λ k below. before (suc k) (omega (arith, below))))

behind_goes_on : (xs ys : List ℕ) (n : ℕ) → n ≤ length xs → ((k : ℕ) → k < n → slice_index xs k ≢ 10)
    → drop_through 10 (take n xs ++ ys) ≡ drop_through 10 ys
behind_goes_on xs ys zero within before = refl
behind_goes_on [] ys (suc n) within before = absurd (omega (arith, within))
behind_goes_on (x ∷ xs) ys (suc n) within before =
    ap (λ b. cond b (take n xs ++ ys) (drop_through 10 (take n xs ++ ys))) (ne_eqb x 10 (before 0 (omega arith)))
    ∙ behind_goes_on xs ys n (omega (arith, within)) (λ k below. before (suc k) (omega (arith, below)))

line_ends : (xs ys : List ℕ) (n : ℕ) → n < length xs → ((k : ℕ) → k < n → slice_index xs k ≢ 10) → slice_index xs n ≡ 10
    → take_through 10 (take (suc n) xs ++ ys) ≡ take (suc n) xs
line_ends [] ys n within before here = absurd (omega (arith, within))
line_ends (x ∷ xs) ys zero within before here =
    ap (λ b. cond b (x ∷ []) (x ∷ take_through 10 ys)) (eq-eqb x 10 here)
line_ends (x ∷ xs) ys (suc n) within before here =
    ap (λ b. cond b (x ∷ []) (x ∷ take_through 10 (take (suc n) xs ++ ys))) (ne_eqb x 10 (before 0 (omega arith)))
    ∙ ap (λ l. x ∷ l) (line_ends xs ys n (omega (arith, within)) (λ k below. before (suc k) (omega (arith, below))) here)

behind_ends : (xs ys : List ℕ) (n : ℕ) → n < length xs → ((k : ℕ) → k < n → slice_index xs k ≢ 10) → slice_index xs n ≡ 10
    → drop_through 10 (take (suc n) xs ++ ys) ≡ ys
behind_ends [] ys n within before here = absurd (omega (arith, within))
behind_ends (x ∷ xs) ys zero within before here =
    ap (λ b. cond b ys (drop_through 10 ys)) (eq-eqb x 10 here)
behind_ends (x ∷ xs) ys (suc n) within before here =
    ap (λ b. cond b (take (suc n) xs ++ ys) (drop_through 10 (take (suc n) xs ++ ys))) (ne_eqb x 10 (before 0 (omega arith)))
    ∙ behind_ends xs ys n (omega (arith, within)) (λ k below. before (suc k) (omega (arith, below))) here

-- the line's end was found
pub part_with_end : (xs ys : List ℕ) (n : ℕ) → n < length xs → ((k : ℕ) → k < n → slice_index xs k ≢ 10) → slice_index xs n ≡ 10
    → IsPart (take (suc n) xs) ys true
part_with_end xs ys n within before here =
    record { line = line_ends xs ys n within before here ∙ sym (append-nil (take (suc n) xs)); behind = behind_ends xs ys n within before here }

-- it wasn't found; it has ended where nothing is shown
pub part_without_end : (xs ys : List ℕ) (n : ℕ) → n ≤ length xs → ((k : ℕ) → k < n → slice_index xs k ≢ 10) → (length xs ≡ 0 → ys ≡ [])
    → (none : Bool) → (none ≡ true → length xs ≡ 0) → IsPart (take n xs) ys none
part_without_end xs ys n within before end false is =
    record { line = line_goes_on xs ys n within before; behind = behind_goes_on xs ys n within before }
part_without_end [] ys zero within before end true is =
    let gone : ys ≡ [] = end refl in record { line = ap (take_through 10) gone; behind = ap (drop_through 10) gone ∙ sym gone }
part_without_end [] ys (suc n) within before end true is = absurd (omega (arith, within))
part_without_end (x ∷ xs) ys n within before end true is = absurd (omega (arith, is refl))

-- a further part was read
pub reads_on : (xs ys : List ℕ) (front part : List ℕ) (ended : Bool) (left : Option (List ℕ)) → xs ≡ part ++ ys → left ≡ Some ys → IsPart part ys ended
    → HasRead xs front left (front ++ part) ended
reads_on xs ys front part ended left split remaining is = record {
  rest = ys;
  remaining = remaining;
  line = append_assoc front part (still_to_come ended ys) ∙ ap (λ l. front ++ l) (sym (ap (take_through 10) split ∙ is.line));
  behind = sym (ap (drop_through 10) split ∙ is.behind);
}

-- what was read before, and a further part
pub read_before : (xs : List ℕ) (middle new : Option (List ℕ)) (front line : List ℕ) (ended : Bool) → HasRead xs [] middle front false
    → ((ys : List ℕ) → middle ≡ Some ys → HasRead ys front new line ended) → HasRead xs [] new line ended
read_before xs middle new front line ended first then_ =
    let next = then_ first.rest first.remaining in
    record { rest = next.rest; remaining = next.remaining; line = next.line ∙ first.line; behind = next.behind ∙ first.behind }

-- the part was of what the reader showed
pub reads_shown : (old left : Option (List ℕ)) (xs shown front : List ℕ) (n : ℕ) (ended : Bool) → old ≡ Some xs → Consumes old left (take n shown)
    → IfSome old (λ all. length shown ≡ 0 → all ≡ [])
    → ((rest : List ℕ) → (length shown ≡ 0 → rest ≡ []) → IsPart (take n shown) rest ended) → HasRead xs front left (front ++ take n shown) ended
reads_shown None left xs shown front n ended is used end part = absurd cc
reads_shown (Some all) None xs shown front n ended is used end part = absurd used
reads_shown (Some all) (Some rest) xs shown front n ended is used end part =
    let same : all ≡ xs = cc in
    reads_on xs rest front (take n shown) ended (Some rest) (sym same ∙ used) refl (part rest (λ none. none_left n shown rest none (sym (used) ∙ end none)))
  where
    none_left : (n : ℕ) (shown rest : List ℕ) → length shown ≡ 0 → take n shown ++ rest ≡ [] → rest ≡ []
    none_left zero [] rest none is = is
    none_left (suc n) [] rest none is = is
    none_left n (x ∷ xs) rest none is = absurd (omega (arith, none))

-- what is kept of a line once it was read, or so much of it that the rest may be passed over
pub line_kept : (xs : List ℕ) (middle : Option (List ℕ)) (kept : List ℕ) (ended : Bool) → HasRead xs [] middle kept ended
    → (ended ≡ false → most_kept ≤ length kept) → IsKept kept (take_through 10 xs)
line_kept xs middle kept true read full = inl (sym (append-nil kept) ∙ read.line)
line_kept xs middle kept false read full = inr (full refl, take_through 10 read.rest, sym read.line)

-- what is left behind it
pub left_behind : (xs : List ℕ) (middle left : Option (List ℕ)) (kept : List ℕ) (ended : Bool) → HasRead xs [] middle kept ended
    → ((ys : List ℕ) → middle ≡ Some ys → left ≡ Some (behind_line ended ys)) → left ≡ Some (drop_through 10 xs)
left_behind xs middle left kept ended read passed = passed read.rest read.remaining ∙ ap Some read.behind

-- where nothing was kept the input had ended
pub nothing_came : (xs : List ℕ) (kept : List ℕ) → IsKept kept (take_through 10 xs) → length kept ≡ 0 → xs ≡ []
nothing_came xs kept (inl same) none = take_through-nil 10 xs (sym (ap length same) ∙ none)
nothing_came xs kept (inr long) none = absurd (omega (arith, long.0, none))

-- where something was kept there was a line
pub something_came : (xs : List ℕ) (kept : List ℕ) → IsKept kept (take_through 10 xs) → 0 < length kept → 0 < length (take_through 10 xs)
something_came xs kept (inl same) some = subst (λ (l : List ℕ). 0 < length l) same some
something_came xs kept (inr long) some = omega (arith, some, ap length long.2, length-append kept long.1)

-- ---- a front that is long enough asks for what the whole line asks for

-- what is left of a line without a byte at its end
one_off : (b : ℕ) (bs : List ℕ) (n : ℕ) → n < length bs → (is : Bool)
    → (m : List ℕ) × ((if is then take (length (b ∷ bs) - 1) (b ∷ bs) else b ∷ bs) ≡ b ∷ m) × (n ≤ length m)
one_off b bs n long false = (bs, refl, omega (arith, long))
one_off b bs n long true =
    let count : length (b ∷ bs) - 1 ≡ suc (length bs - 1) = omega (arith, long) in
    (take (length bs - 1) bs, ap (λ k. take k (b ∷ bs)) count, omega (arith, long, length-take-le (length bs - 1) bs (omega arith)))

stripped : (byte b : ℕ) (bs : List ℕ) (n : ℕ) → n < length bs → (m : List ℕ) × (strip_last byte (b ∷ bs) ≡ b ∷ m) × (n ≤ length m)
stripped byte b bs n long = one_off b bs n long (ends_with_byte byte (b ∷ bs))

-- the line begins with the same byte, and is too long
line_starts : (b : ℕ) (bs : List ℕ) → most_bytes + 2 ≤ length bs → (m : List ℕ) × (line_of (b ∷ bs) ≡ b ∷ m) × (most_bytes ≤ length m)
line_starts b bs long = by (ends_with_byte 10 (b ∷ bs))
  where
    by : (is : Bool) → (m : List ℕ) × ((if is then strip_last 13 (strip_last 10 (b ∷ bs)) else b ∷ bs) ≡ b ∷ m) × (most_bytes ≤ length m)
    by false = (bs, refl, omega (arith, long))
    by true =
        let once = stripped 10 b bs (most_bytes + 1) (omega (arith, long)) in
        let twice = stripped 13 b once.0 most_bytes (omega (arith, once.2)) in
        (twice.0, ap (strip_last 13) once.1 ∙ twice.1, twice.2)

too_long : (b : ℕ) (m : List ℕ) → most_bytes ≤ length m → asked (b ∷ m) ≡ (if b == 35 then Skip else Bad)
too_long b m long =
    let over : nat_lt most_bytes (length (b ∷ m)) ≡ true = search (rules, long) in
    ap (λ t. if b == 35 then Skip else (if t then Bad else request_of (b ∷ m))) over

long_line_asks : (b : ℕ) (bs : List ℕ) → most_bytes + 2 ≤ length bs → asked (line_of (b ∷ bs)) ≡ (if b == 35 then Skip else Bad)
long_line_asks b bs long = let line = line_starts b bs long in ap asked line.1 ∙ too_long b line.0 line.2

pub asks_the_same : (kept whole : List ℕ) → IsKept kept whole → asked (line_of kept) ≡ asked (line_of whole)
asks_the_same kept whole (inl same) = ap (λ l. asked (line_of l)) same
asks_the_same [] whole (inr long) = absurd (omega (arith, long.0))
asks_the_same (b ∷ bs) whole (inr long) =
    let more = long.1 in
    long_line_asks b bs (omega (arith, long.0))
    ∙ sym (ap (λ l. asked (line_of l)) long.2 ∙ long_line_asks b (bs ++ more) (omega (arith, long.0, length-append bs more)))

-- ---- and shows the same front

-- a byte that goes off the end isn't in the front
front_kept : (n byte : ℕ) (xs : List ℕ) → n < length xs → take n (strip_last byte xs) ≡ take n xs
front_kept n byte xs long = by (ends_with_byte byte xs)
  where
    by : (is : Bool) → take n (if is then take (length xs - 1) xs else xs) ≡ take n xs
    by false = refl
    by true = take-take n (length xs - 1) xs (omega (arith, long))

stripped_length : (n byte : ℕ) (xs : List ℕ) → suc n < length xs → n < length (strip_last byte xs)
stripped_length n byte xs long = by (ends_with_byte byte xs)
  where
    by : (is : Bool) → n < length (if is then take (length xs - 1) xs else xs)
    by false = omega (arith, long)
    by true = omega (arith, long, length-take-le (length xs - 1) xs (omega arith))

front_of_line : (n : ℕ) (xs : List ℕ) → suc n < length xs → take n (line_of xs) ≡ take n xs
front_of_line n xs long = by (ends_with_byte 10 xs)
  where
    by : (is : Bool) → take n (if is then strip_last 13 (strip_last 10 xs) else xs) ≡ take n xs
    by false = refl
    by true = front_kept n 13 (strip_last 10 xs) (stripped_length n 10 xs long) ∙ front_kept n 10 xs (omega (arith, long))

same_front_of : (n : ℕ) (kept more : List ℕ) → suc n < length kept → take n (line_of kept) ≡ take n (line_of (kept ++ more))
same_front_of n kept more long =
    front_of_line n kept long ∙ sym (take-append-le n kept more (omega (arith, long))) ∙ sym (front_of_line n (kept ++ more) (omega (arith, long, length-append kept more)))

pub shows_the_same : (kept whole : List ℕ) → IsKept kept whole → take most_bytes (line_of kept) ≡ take most_bytes (line_of whole)
shows_the_same kept whole (inl same) = ap (λ l. take most_bytes (line_of l)) same
shows_the_same kept whole (inr long) =
    same_front_of most_bytes kept long.1 (omega (arith, long.0)) ∙ sym (ap (λ l. take most_bytes (line_of l)) long.2)
