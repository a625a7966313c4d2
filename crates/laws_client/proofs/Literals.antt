-- A client passes over the bytes of a literal, whatever they are; and it passes over lines that don't begin with a star.
use Rattle.std.proofs.Common.{◌≡◌, ℕ, ◌^◌, ◌<◌, Bool, true, false, ◌==◌, List, [], ◌∷◌, ◌++◌, length, ap, ◌∙◌, sym, refl, subst, append_assoc}
use Rattle.std.specs.Prelude.{reverse, decimal, Option, Some, None, if◌then◌else◌, codes}
use Rattle.std.specs.List.{list_all}
use Rattle.std.proofs.lemmas.Grind.{reverse_onto}
use Rattle.std.proofs.lemmas.List.{reverse-reverse, reverse-append, append-nil}
use Rattle.std.proofs.lemmas.List.Folds.{list_all-append}
use Rattle.imap_answers.specs.Answers.{literal}
use Rattle.imap_grammar.specs.Brackets.{in_bracket}
use Rattle.imap_grammar.specs.Bytes.{is_digit}
use Rattle.laws_client.specs.Client.{Client, Messages, knowing, reads, literal_of, count_of, number, in_words, line_ends}
use Rattle.laws_client.specs.ListTurns.{is_inner}
use Rattle.laws_client.specs.ListLaws.{LiteralLeavesItsCount, LiteralsAreAlike, within}
use Rattle.laws_client.proofs.Reading.{told, words, words_from, into_first}
use Rattle.laws_client.proofs.Bytes.{reads-append, inner_text, inner_byte, words_are_inner, decimal_word, decimal_says, decimal_digits, first_of, rest_of, whole_line}

abbrev in_literal : Messages → List ℕ → ℕ → Client
in_literal o line n = record { messages = o; line = line; literal = n }

passes_over : (o : Messages) (line bytes : List ℕ) → reads (in_literal o line (length bytes)) bytes ≡ within o line
passes_over o line [] = refl
passes_over o line (b ∷ bs) = passes_over o line bs

count_digits : (back acc line : List ℕ) → list_all is_digit back ≡ true → count_of acc (back ++ 123 ∷ line) ≡ number (reverse back ++ acc)
count_digits [] acc line h = refl
count_digits (b ∷ bs) acc line h =
    rw (first_of is_digit b bs h)
    (count_digits bs (b ∷ acc) line (rest_of is_digit b bs h)
    ∙ ap number (sym (ap (λ (l : List ℕ). l ++ acc) (reverse_onto bs b []) ∙ append_assoc (reverse bs) (b ∷ []) acc)))

digits_back : (ds : List ℕ) → list_all is_digit ds ≡ true → list_all is_digit (reverse ds) ≡ true
digits_back [] h = refl
digits_back (d ∷ ds) h =
    ap (list_all is_digit) (reverse_onto ds d [])
    ∙ list_all-append is_digit (reverse ds) (d ∷ [])
    ∙ rw (digits_back ds (rest_of is_digit d ds h), first_of is_digit d ds h) refl

-- the count of a literal, last byte first, behind what stands before it in its line
abbrev brace_back : ℕ → List ℕ → List ℕ
brace_back n line = 125 ∷ (reverse (decimal n) ++ 123 ∷ line)

abbrev count_back : ℕ → List ℕ → List ℕ
count_back n line = 10 ∷ 13 ∷ brace_back n line

pub count_is : (n : ℕ) (line : List ℕ) → n < 2 ^ 64 → literal_of (brace_back n line) ≡ Some n
count_is n line h =
    count_digits (reverse (decimal n)) [] line (digits_back (decimal n) (decimal_digits n h))
    ∙ ap number (append-nil (reverse (reverse (decimal n))) ∙ reverse-reverse (decimal n))
    ∙ decimal_says n h

-- Within a line a literal leaves nothing but its count: none of its bytes is read, whether it looks like a line or not.
reads_literal : (o : Messages) (line bytes : List ℕ) → length bytes < 2 ^ 64 → reads (within o line) (literal bytes) ≡ within o (count_back (length bytes) line)
reads_literal o line bytes h =
    let n : ℕ = length bytes in
    ap (λ (c : Client). reads c (decimal n ++ codes "}\r\n" ++ bytes)) (inner_byte o line 123 refl)
    ∙ ap (reads (within o (123 ∷ line))) (append_assoc (decimal n) (codes "}\r\n") bytes)
    ∙ reads-append (within o (123 ∷ line)) (decimal n) (codes "}\r\n" ++ bytes)
    ∙ ap (λ (c : Client). reads c (codes "}\r\n" ++ bytes)) (inner_text o (123 ∷ line) (decimal n) (words_are_inner (decimal n) (decimal_word n h)))
    ∙ ap (λ (c : Client). reads c (13 ∷ 10 ∷ bytes)) (inner_byte o (reverse (decimal n) ++ 123 ∷ line) 125 refl)
    ∙ ap (λ (c : Client). reads c (10 ∷ bytes)) (inner_byte o (brace_back n line) 13 refl)
    ∙ ap (λ (k : Option ℕ). reads (line_ends k o (brace_back n line)) bytes) (count_is n line h)
    ∙ passes_over o (count_back n line) bytes

-- the count of a literal, last byte first, is what the count alone leaves
count_shape : (n : ℕ) (line : List ℕ) → reverse (codes "{" ++ decimal n ++ codes "}\r\n") ++ line ≡ count_back n line
count_shape n line =
    ap (λ (l : List ℕ). l ++ line) (reverse-append (123 ∷ decimal n) (125 ∷ 13 ∷ 10 ∷ []))
    ∙ ap (λ (l : List ℕ). 10 ∷ 13 ∷ 125 ∷ (l ++ line)) (reverse_onto (decimal n) 123 [])
    ∙ ap (λ (l : List ℕ). 10 ∷ 13 ∷ 125 ∷ l) (append_assoc (reverse (decimal n)) (123 ∷ []) line)

pub literal_leaves_its_count : LiteralLeavesItsCount
literal_leaves_its_count messages line bytes h = reads_literal messages line bytes h ∙ ap (within messages) (sym (count_shape (length bytes) line))

pub literals_are_alike : LiteralsAreAlike
literals_are_alike messages line one two h same =
    reads_literal messages line one h ∙ ap (λ (n : ℕ). within messages (count_back n line)) same
    ∙ sym (reads_literal messages line two (subst (λ (n : ℕ). n < 2 ^ 64) same h))

-- ---- lines that say nothing of messages

no_star_word : (b : ℕ) (ws : List (List ℕ)) (o : Messages) → (b == 42) ≡ false → in_words (into_first b ws) o ≡ o
no_star_word b [] o h = rw h refl
no_star_word b (w ∷ ws) o h = rw h refl

-- a line that doesn't begin with a star
pub no_star : (b : ℕ) (bs : List ℕ) (o : Messages) → (b == 42) ≡ false → told (b ∷ bs) o ≡ o
no_star b bs o h = by (b == 32)
  where
    by : (t : Bool) → in_words (if t then [] ∷ words bs else into_first b (words_from (in_bracket false b) bs)) o ≡ o
    by true = refl
    by false = no_star_word b (words_from (in_bracket false b) bs) o h

pub reads_other : (o : Messages) (b : ℕ) (bs : List ℕ) → (b == 42) ≡ false → list_all is_inner (b ∷ bs) ≡ true → literal_of (reverse (b ∷ bs)) ≡ None
    → reads (knowing o) ((b ∷ bs) ++ 13 ∷ 10 ∷ []) ≡ knowing o
reads_other o b bs h inner none = whole_line o (b ∷ bs) inner none ∙ ap knowing (no_star b bs o h)
