-- How a key of a SEARCH is stored, which proofs want of what a type's values are: as a list of its parts, each behind
-- those that it stands over. No public clause speaks of it.
use Rattle.std.specs.Prelude.{◌≡◌, ℕ, zero, suc, List, [], ◌∷◌, ◌++◌, length, take, drop, map, ◌==◌, if◌then◌else◌}
use Rattle.std.proofs.Common.{refl, ap, ◌∙◌, append_assoc, append-nil, sym}
use Rattle.std.proofs.lemmas.List.{take_at, drop_at}
use Rattle.std.specs.Coded.{Coded, code_by, coded×, coded_list, coded_ℕ}
use Rattle.imap_grammar.specs.Keys.{Key, Always, Never, Has, Lacks, Larger, Smaller, Before, On, Since, InField, InBody, InText}
use Rattle.imap_grammar.specs.Keys.{Positions, Uids, Not, Or, And}
use Rattle.imap_grammar.specs.declared.dates.Day.{Day}
use Rattle.imap_grammar.specs.declared.key_words.SystemFlag.{SystemFlag}
use Rattle.imap_grammar.specs.declared.key_words.SystemFlag.TheVariants.{Answered, Deleted, Draft, Flagged, Seen}
use Rattle.imap_grammar.specs.declared.set.SeqNumber.{SeqNumber}
use Rattle.imap_grammar.specs.declared.set.SeqNumber.TheVariants.{Number, Star}
use Rattle.imap_grammar.specs.declared.set.SeqRange.{SeqRange}

abbrev pub Part : Type 0
Part = ℕ × (ℕ × List (ℕ × ℕ))

abbrev pub number_code : SeqNumber → ℕ
number_code Star = 0
number_code (Number n) = suc n

abbrev pub number_back : ℕ → SeqNumber
number_back zero = Star
number_back (suc n) = Number n

abbrev pub range_code : SeqRange → ℕ × ℕ
range_code range = (number_code range.from, number_code range.to)

abbrev pub range_back : ℕ × ℕ → SeqRange
range_back p = record { from = number_back p.0; to = number_back p.1 }

abbrev pub flag_code : SystemFlag → ℕ
flag_code Answered = 0
flag_code Deleted = 1
flag_code Draft = 2
flag_code Flagged = 3
flag_code Seen = 4

abbrev pub flag_back : ℕ → SystemFlag
flag_back n =
    if n == 0 then Answered
    else if n == 1 then Deleted
    else if n == 2 then Draft
    else if n == 3 then Flagged
    else Seen

abbrev pub day_back : ℕ → List (ℕ × ℕ) → Day
day_back year [] = record { year = year; month = 0; day = 0 }
day_back year (p ∷ ps) = record { year = year; month = p.0; day = p.1 }

abbrev pub part : ℕ → ℕ → List SeqRange → List Part
part kind n set = (kind, (n, map range_code set)) ∷ []

abbrev pub day_part : ℕ → Day → List Part
day_part kind day = (kind, (day.year, (day.month, day.day) ∷ [])) ∷ []

abbrev pub byte_code : ℕ → ℕ × ℕ
byte_code b = (b, 0)

abbrev pub byte_back : ℕ × ℕ → ℕ
byte_back p = p.0

-- two texts side by side, the first of so many bytes
abbrev pub text_part : ℕ → ℕ → List ℕ → List Part
text_part kind n text = (kind, (n, map byte_code text)) ∷ []

abbrev pub parts_of : Key → List Part
parts_of Always = part 0 0 []
parts_of Never = part 1 0 []
parts_of (Has flag) = part 2 (flag_code flag) []
parts_of (Lacks flag) = part 3 (flag_code flag) []
parts_of (Larger n) = part 4 n []
parts_of (Smaller n) = part 5 n []
parts_of (Before day) = day_part 11 day
parts_of (On day) = day_part 12 day
parts_of (Since day) = day_part 13 day
parts_of (InField name words) = text_part 14 (length name) (name ++ words)
parts_of (InBody words) = text_part 15 0 words
parts_of (InText words) = text_part 16 0 words
parts_of (Positions set) = part 6 0 set
parts_of (Uids set) = part 7 0 set
parts_of (Not key) = parts_of key ++ part 8 0 []
parts_of (Or one other) = parts_of one ++ (parts_of other ++ part 9 0 [])
parts_of (And one other) = parts_of one ++ (parts_of other ++ part 10 0 [])

abbrev pub negated : List Key → List Key
negated [] = []
negated (key ∷ keys) = Not key ∷ keys

abbrev pub joined : (Key → Key → Key) → List Key → List Key
joined make [] = []
joined make (other ∷ []) = other ∷ []
joined make (other ∷ one ∷ keys) = make one other ∷ keys

abbrev pub pushed : ℕ → ℕ → List (ℕ × ℕ) → List Key → List Key
pushed kind n set keys =
    if kind == 0 then Always ∷ keys
    else if kind == 1 then Never ∷ keys
    else if kind == 2 then Has (flag_back n) ∷ keys
    else if kind == 3 then Lacks (flag_back n) ∷ keys
    else if kind == 4 then Larger n ∷ keys
    else if kind == 5 then Smaller n ∷ keys
    else if kind == 6 then Positions (map range_back set) ∷ keys
    else if kind == 7 then Uids (map range_back set) ∷ keys
    else if kind == 8 then negated keys
    else if kind == 9 then joined Or keys
    else if kind == 10 then joined And keys
    else if kind == 11 then Before (day_back n set) ∷ keys
    else if kind == 12 then On (day_back n set) ∷ keys
    else if kind == 13 then Since (day_back n set) ∷ keys
    else if kind == 14 then InField (take n (map byte_back set)) (drop n (map byte_back set)) ∷ keys
    else if kind == 15 then InBody (map byte_back set) ∷ keys
    else InText (map byte_back set) ∷ keys

abbrev pub keys_back : List Part → List Key → List Key
keys_back [] keys = keys
keys_back (p ∷ parts) keys = keys_back parts (pushed p.0 p.1.0 p.1.1 keys)

abbrev pub first_key : List Key → Key
first_key [] = Never
first_key (key ∷ keys) = key

abbrev pub key_back : List Part → Key
key_back parts = first_key (keys_back parts [])

-- ---- what is stored gives the key back

number_again : (n : SeqNumber) → number_back (number_code n) ≡ n
number_again Star = refl
number_again (Number n) = refl

abbrev range_between : SeqNumber → SeqNumber → SeqRange
range_between a b = record { from = a; to = b }

range_again : (range : SeqRange) → range_between (number_back (number_code range.from)) (number_back (number_code range.to)) ≡ range
range_again range =
    ap (λ x. range_between x (number_back (number_code range.to))) (number_again range.from) ∙ ap (range_between range.from) (number_again range.to)

set_again : (set : List SeqRange) → map range_back (map range_code set) ≡ set
set_again [] = refl
set_again (range ∷ set) = ap (λ x. x ∷ map range_back (map range_code set)) (range_again range) ∙ ap (λ x. range ∷ x) (set_again set)

text_again : (text : List ℕ) → map byte_back (map byte_code text) ≡ text
text_again [] = refl
text_again (b ∷ bs) = ap (λ x. b ∷ x) (text_again bs)

fields_again : (name words : List ℕ) (n : ℕ) → length name ≡ n → (both : List ℕ) → both ≡ name ++ words
    → InField (take n both) (drop n both) ≡ InField name words
fields_again name words n e both h =
    ap (λ x. InField (take n x) (drop n x)) h ∙ ap (λ x. InField x (drop n (name ++ words))) (take_at name words n e)
    ∙ ap (InField name) (drop_at name words n e)

flag_again : (flag : SystemFlag) → flag_back (flag_code flag) ≡ flag
flag_again Answered = refl
flag_again Deleted = refl
flag_again Draft = refl
flag_again Flagged = refl
flag_again Seen = refl

again : (key : Key) (rest : List Part) (keys : List Key) → keys_back (parts_of key ++ rest) keys ≡ keys_back rest (key ∷ keys)
again Always rest keys = refl
again Never rest keys = refl
again (Has flag) rest keys = ap (λ x. keys_back rest (Has x ∷ keys)) (flag_again flag)
again (Lacks flag) rest keys = ap (λ x. keys_back rest (Lacks x ∷ keys)) (flag_again flag)
again (Larger n) rest keys = refl
again (Smaller n) rest keys = refl
again (Before day) rest keys = refl
again (On day) rest keys = refl
again (Since day) rest keys = refl
again (InField name words) rest keys =
    ap (λ x. keys_back rest (x ∷ keys)) (fields_again name words (length name) refl (map byte_back (map byte_code (name ++ words)))
    (text_again (name ++ words)))
again (InBody words) rest keys = ap (λ x. keys_back rest (InBody x ∷ keys)) (text_again words)
again (InText words) rest keys = ap (λ x. keys_back rest (InText x ∷ keys)) (text_again words)
again (Positions set) rest keys = ap (λ x. keys_back rest (Positions x ∷ keys)) (set_again set)
again (Uids set) rest keys = ap (λ x. keys_back rest (Uids x ∷ keys)) (set_again set)
again (Not key) rest keys = ap (λ x. keys_back x keys) (append_assoc (parts_of key) (part 8 0 []) rest) ∙ again key (part 8 0 [] ++ rest) keys
again (Or one other) rest keys =
    ap (λ x. keys_back x keys) (append_assoc (parts_of one) (parts_of other ++ part 9 0 []) rest
    ∙ ap (λ x. parts_of one ++ x) (append_assoc (parts_of other) (part 9 0 []) rest))
    ∙ again one (parts_of other ++ (part 9 0 [] ++ rest)) keys
    ∙ again other (part 9 0 [] ++ rest) (one ∷ keys)
again (And one other) rest keys =
    ap (λ x. keys_back x keys) (append_assoc (parts_of one) (parts_of other ++ part 10 0 []) rest
    ∙ ap (λ x. parts_of one ++ x) (append_assoc (parts_of other) (part 10 0 []) rest))
    ∙ again one (parts_of other ++ (part 10 0 [] ++ rest)) keys
    ∙ again other (part 10 0 [] ++ rest) (one ∷ keys)

pub key_again : (key : Key) → key_back (parts_of key) ≡ key
key_again key = ap (λ x. first_key (keys_back x [])) (sym (append-nil (parts_of key))) ∙ ap first_key (again key [] [])

abbrev pub key_code : Coded Key
key_code = code_by (List Part) (coded_list (coded× coded_ℕ (coded× coded_ℕ (coded_list (coded× coded_ℕ coded_ℕ))))) parts_of key_back key_again
