-- What the text of a script's parts begins with: by its first byte it is of a connection, of a session, a refusal or a window.
use Rattle.std.proofs.Common.{◌≡◌, ◌≢◌, ◌⊎◌, inl, inr, rules, ℕ, zero, suc, ◌+◌, ◌<◌, ◌≤◌, Bool, true, false, List, [], ◌∷◌, ◌++◌, length, refl, sym, ap, ◌∙◌, append_assoc, arith}
use Rattle.std.specs.Prelude.{codes, decimal, drop, flat_map, map, nat_lt, ◌==◌, ◌/◌, ◌%◌, if◌then◌else◌}
use Rattle.std.specs.Fmt.{digits, digits_onto, digit_glyph}
use Rattle.std.proofs.lemmas.Bool.{eqb-true}
use Rattle.line_io.specs.Wire.{joined, marked, wire_lines}
use Rattle.world.specs.World.{Box}
use Rattle.world.proofs.Base.{Every}
use Rattle.house_peers.specs.Lmtp.{lmtp}
use Rattle.house_peers.specs.Speech.{wire}
use Rattle.house.specs.Setup.{Setup}
use Rattle.house.specs.Window.{change_text, tail_line, window_text}
use Rattle.exactly_once.specs.Promise.{Piece, Replies, Lines, Silence, reply_of, text_of}
use Rattle.script.specs.Promise.{refusal}

-- ---- bytes

pub same_first : (x y : ℕ) (xs ys : List ℕ) → x ∷ xs ≡ y ∷ ys → x ≡ y
same_first x y xs ys e = cc

pub same_rest : (x y : ℕ) (xs ys : List ℕ) → x ∷ xs ≡ y ∷ ys → xs ≡ ys
same_rest x y xs ys e = cc

-- what stands before the first of these bytes
pub cut_at : (m : ℕ) (xs ys a b : List ℕ) → Every (λ x. x ≢ m) xs → Every (λ x. x ≢ m) ys → xs ++ m ∷ a ≡ ys ++ m ∷ b → (xs ≡ ys) × (a ≡ b)
cut_at m [] [] a b h k e = (refl, same_rest m m a b e)
cut_at m [] (y ∷ ys) a b h k e = absurd (k.0 (sym (same_first m y a (ys ++ m ∷ b) e)))
cut_at m (x ∷ xs) [] a b h k e = absurd (h.0 (same_first x m (xs ++ m ∷ a) b e))
cut_at m (x ∷ xs) (y ∷ ys) a b h k e =
    let both = cut_at m xs ys a b h.1 k.1 (same_rest x y (xs ++ m ∷ a) (ys ++ m ∷ b) e) in
    (ap (λ (n : ℕ). n ∷ xs) (same_first x y (xs ++ m ∷ a) (ys ++ m ∷ b) e) ∙ ap (λ (l : List ℕ). y ∷ l) both.0, both.1)

-- ---- numbers as they are printed

-- Digits and letters stand behind a space and an LF in the table of bytes, so a word has neither.
abbrev pub IsWord : List ℕ → Type 0
IsWord bytes = Every (λ b. 48 ≤ b) bytes

glyph_is : (d : ℕ) → 48 ≤ digit_glyph false d
glyph_is d = by (nat_lt d 10)
  where
    by : (b : Bool) → 48 ≤ (if b then 48 + d else 87 + d)
    by true = omega arith
    by false = omega arith

digits_are : (k n : ℕ) (acc : List ℕ) → IsWord acc → IsWord (digits_onto k 10 false n acc)
digits_are zero n acc h = h
digits_are (suc k) n acc h = by (n / 10 == 0) (digits_are k (n / 10) (digit_glyph false (n % 10) ∷ acc) (glyph_is (n % 10), h))
  where
    by : (last : Bool) → IsWord (digits_onto k 10 false (n / 10) (digit_glyph false (n % 10) ∷ acc))
        → IsWord (if last then digit_glyph false (n % 10) ∷ acc else digits_onto k 10 false (n / 10) (digit_glyph false (n % 10) ∷ acc))
    by true more = (glyph_is (n % 10), h)
    by false more = more

pub decimal_digits : (n : ℕ) → IsWord (decimal n)
unfolding digits
decimal_digits n = digits_are 64 n [] tt

pub none_of : (m : ℕ) (bytes : List ℕ) → m < 48 → IsWord bytes → Every (λ x. x ≢ m) bytes
none_of m [] l h = tt
none_of m (b ∷ bytes) l h = ((λ e. let x = h.0 in omega (arith, e, l, x)), none_of m bytes l h.1)

no_fewer : (k n : ℕ) (acc : List ℕ) → length acc ≤ length (digits_onto k 10 false n acc)
no_fewer zero n acc = omega arith
no_fewer (suc k) n acc = by (n / 10 == 0) (no_fewer k (n / 10) (digit_glyph false (n % 10) ∷ acc))
  where
    by : (last : Bool) → suc (length acc) ≤ length (digits_onto k 10 false (n / 10) (digit_glyph false (n % 10) ∷ acc))
        → length acc ≤ length (if last then digit_glyph false (n % 10) ∷ acc else digits_onto k 10 false (n / 10) (digit_glyph false (n % 10) ∷ acc))
    by true l = omega arith
    by false l = omega (arith, l)

one_more : (k n : ℕ) (acc : List ℕ) → suc (length acc) ≤ length (digits_onto (suc k) 10 false n acc)
one_more k n acc = by (n / 10 == 0)
  where
    by : (last : Bool) → suc (length acc) ≤ length (if last then digit_glyph false (n % 10) ∷ acc else digits_onto k 10 false (n / 10) (digit_glyph false (n % 10) ∷ acc))
    by true = omega arith
    by false = no_fewer k (n / 10) (digit_glyph false (n % 10) ∷ acc)

glyph_small : (r : ℕ) → r < 10 → digit_glyph false r ≡ 48 + r
glyph_small r l = search (rules, l)

-- a number of one digit
pub one_digit : (n d : ℕ) → decimal n ≡ (48 + d) ∷ [] → n ≡ d
unfolding digits
one_digit n d e = by (n / 10 == 0) refl e
  where
    by : (last : Bool) → (n / 10 == 0) ≡ last
        → (if last then digit_glyph false (n % 10) ∷ [] else digits_onto 63 10 false (n / 10) (digit_glyph false (n % 10) ∷ [])) ≡ (48 + d) ∷ [] → n ≡ d
    by true is e =
        let none : n / 10 ≡ 0 = eqb-true (n / 10) 0 is in
        let glyph : digit_glyph false (n % 10) ≡ 48 + d = same_first (digit_glyph false (n % 10)) (48 + d) [] [] e in
        let told = glyph_small (n % 10) (omega arith) in
        omega (arith, none, glyph, told)
    by false is e =
        let more = one_more 62 (n / 10) (digit_glyph false (n % 10) ∷ []) in
        let one : length (digits_onto 63 10 false (n / 10) (digit_glyph false (n % 10) ∷ [])) ≡ 1 = ap (λ (x : List ℕ). length x) e in
        absurd (omega (arith, more, one))

-- ---- the text of a part

-- an L marks what a connection says, an I what a session does
marked_begins : (mark n b : ℕ) (said more : List ℕ) → marked mark n said ≡ b ∷ more → b ≡ mark
marked_begins mark n b said more e = by (wire_lines said) e
  where
    by : (lines : List (List ℕ)) → flat_map (λ line. mark ∷ decimal n ++ codes " " ++ line ++ 10 ∷ []) lines ≡ b ∷ more → b ≡ mark
    by [] e = absurd cc
    by (line ∷ lines) e = sym (same_first mark b _ more e)

pub lines_begin : (k : Setup) (session b : ℕ) (lines : List (List ℕ)) (more : List ℕ) → text_of k (Lines session lines) ≡ b ∷ more → b ≡ 73
lines_begin k session b lines more e = marked_begins 73 session b (joined lines) more e

pub piece_begins : (k : Setup) (piece : Piece) (b : ℕ) (more : List ℕ) → text_of k piece ≡ b ∷ more → (b ≡ 76) ⊎ (b ≡ 73)
piece_begins k (Replies seat said) b more e = inl (marked_begins 76 (seat + 1) b (wire lmtp k.host (map reply_of said)) more e)
piece_begins k (Lines session lines) b more e = inr (lines_begin k session b lines more e)
piece_begins k Silence b more e = absurd cc

-- a ? marks a refusal
pub refusal_begins : (number : ℕ) (word more : List ℕ) → refusal number word ++ more ≡ 63 ∷ 32 ∷ (decimal number ++ 32 ∷ (word ++ 10 ∷ more))
refusal_begins number word more =
    let digits = decimal number in
    ap (λ (x : List ℕ). 63 ∷ 32 ∷ x)
    (append_assoc ((digits ++ 32 ∷ []) ++ word) (10 ∷ []) more ∙ append_assoc (digits ++ 32 ∷ []) word (10 ∷ more) ∙ append_assoc digits (32 ∷ []) (word ++ 10 ∷ more))

-- a T marks a line of a window, and its word comes first
line_begins : (word text more : List ℕ) → tail_line word text ++ more ≡ 84 ∷ 32 ∷ (word ++ 32 ∷ (text ++ 10 ∷ more))
line_begins word text more =
    ap (λ (x : List ℕ). 84 ∷ 32 ∷ x) (append_assoc (word ++ 32 ∷ text) (10 ∷ []) more ∙ append_assoc word (32 ∷ text) (10 ∷ more))

lines_begin_so : {A : Type 0} (text_of_one : A → List ℕ) (ones : List A) (word text more : List ℕ) → (rest : List ℕ)
    × ((flat_map (λ one. tail_line word (text_of_one one)) ones ++ tail_line word text) ++ more ≡ 84 ∷ 32 ∷ (word ++ 32 ∷ rest))
lines_begin_so text_of_one [] word text more = (_, line_begins word text more)
lines_begin_so text_of_one (one ∷ ones) word text more =
    let first = tail_line word (text_of_one one) in
    let others = flat_map (λ one. tail_line word (text_of_one one)) ones in
    let last = tail_line word text in
    (_, append_assoc (first ++ others) last more ∙ append_assoc first others (last ++ more) ∙ line_begins word (text_of_one one) (others ++ (last ++ more)))

pub window_begins : (word : List ℕ) (box : Box) (more : List ℕ) → (rest : List ℕ) × (window_text word box ++ more ≡ 84 ∷ 32 ∷ (word ++ 32 ∷ rest))
window_begins word box more = lines_begin_so change_text (drop box.base box.log) word (codes "total " ++ decimal (length box.log)) more
