-- How a client that cuts reads lines and literals.
use Rattle.std.proofs.Common.{◌≡◌, ℕ, ◌^◌, ◌<◌, Bool, true, false, ◌==◌, ◌&&◌, List, [], ◌∷◌, ◌++◌, length, ap, ap₂, ◌∙◌, sym, refl, append_assoc, append-nil}
use Rattle.std.specs.Prelude.{codes, decimal, reverse, Option, None, if◌then◌else◌}
use Rattle.std.specs.List.{list_all}
use Rattle.std.proofs.lemmas.Bool.{false≢true}
use Rattle.std.proofs.lemmas.Grind.{reverse_onto}
use Rattle.std.proofs.lemmas.List.{reverse-reverse}
use Rattle.imap_answers.specs.Answers.{literal}
use Rattle.laws_client.specs.Client.{literal_of}
use Rattle.laws_client.specs.ListTurns.{is_inner}
use Rattle.laws_client.proofs.Bytes.{first_of, rest_of}
use Rattle.laws_client.proofs.Literals.{count_is}
use Rattle.laws_client.proofs.LinesRead.{not_a_count}
use Rattle.laws_client.specs.Cuts.{Cutter, amid, between, cut_byte, cut_end, cut_in_line, cut_line, cuts, is_tagged}
use Rattle.laws_client.proofs.Decimals.{decimal_inner}

pub cuts-append : (c : Cutter) (xs ys : List ℕ) → cuts c (xs ++ ys) ≡ cuts (cuts c xs) ys
cuts-append c [] ys = refl
cuts-append c (x ∷ xs) ys = cuts-append (cut_byte c.literal c.line x (c.begun ++ x ∷ []) c.answers) xs ys

-- ---- within a line

inner_byte : (line : List ℕ) (b : ℕ) (begun : List ℕ) (answers : List (List ℕ)) → is_inner b ≡ true → cut_in_line line b begun answers ≡ amid (b ∷ line) begun answers
inner_byte [] b begun answers h = refl
inner_byte (c ∷ line) b begun answers h = by (b == 10) h
  where
    by : (t : Bool) → (if t then false else true) ≡ true
        → (if t && (c == 13) then cut_end (literal_of line) line begun answers else amid (b ∷ c ∷ line) begun answers) ≡ amid (b ∷ c ∷ line) begun answers
    by true e = absurd (false≢true e)
    by false e = refl

pub inner_text : (line text begun : List ℕ) (answers : List (List ℕ)) → list_all is_inner text ≡ true → cuts (amid line begun answers) text ≡ amid (reverse text ++ line) (begun ++ text) answers
inner_text line [] begun answers h = ap (λ (x : List ℕ). amid line x answers) (sym (append-nil begun))
inner_text line (b ∷ bs) begun answers h =
    ap (λ (c : Cutter). cuts c bs) (inner_byte line b (begun ++ b ∷ []) answers (first_of is_inner b bs h))
    ∙ inner_text (b ∷ line) bs (begun ++ b ∷ []) answers (rest_of is_inner b bs h)
    ∙ ap₂ (λ (x y : List ℕ). amid x y answers) (sym (ap (λ (l : List ℕ). l ++ line) (reverse_onto bs b []) ∙ append_assoc (reverse bs) (b ∷ []) line)) (append_assoc begun (b ∷ []) bs)

-- the end of a line in which no LF is, and which doesn't end in the count of a literal
pub line_end : (line begun : List ℕ) (answers : List (List ℕ)) → literal_of line ≡ None → cuts (amid line begun answers) (13 ∷ 10 ∷ []) ≡ cut_line (is_tagged (reverse line)) (begun ++ 13 ∷ 10 ∷ []) answers
line_end line begun answers none =
    ap (λ (c : Cutter). cuts c (10 ∷ [])) (inner_byte line 13 (begun ++ 13 ∷ []) answers refl)
    ∙ ap (λ (o : Option ℕ). cut_end o line ((begun ++ 13 ∷ []) ++ 10 ∷ []) answers) none
    ∙ ap (λ (x : List ℕ). cut_line (is_tagged (reverse line)) x answers) (append_assoc begun (13 ∷ []) (10 ∷ []))

pub whole_line : (text begun : List ℕ) (answers : List (List ℕ)) → list_all is_inner text ≡ true → literal_of (reverse text) ≡ None
    → cuts (between begun answers) (text ++ 13 ∷ 10 ∷ []) ≡ cut_line (is_tagged text) (begun ++ (text ++ 13 ∷ 10 ∷ [])) answers
whole_line text begun answers inner none =
    cuts-append (between begun answers) text (13 ∷ 10 ∷ [])
    ∙ ap (λ (c : Cutter). cuts c (13 ∷ 10 ∷ [])) (inner_text [] text begun answers inner ∙ ap (λ (x : List ℕ). amid x (begun ++ text) answers) (append-nil (reverse text)))
    ∙ line_end (reverse text) (begun ++ text) answers none
    ∙ ap₂ (λ (x y : List ℕ). cut_line (is_tagged x) y answers) (reverse-reverse text) (append_assoc begun text (13 ∷ 10 ∷ []))

-- ---- literals

passes_over : (line bytes begun : List ℕ) (answers : List (List ℕ)) → cuts (record { line = line; literal = length bytes; begun = begun; answers = answers }) bytes ≡ amid line (begun ++ bytes) answers
passes_over line [] begun answers = ap (λ (x : List ℕ). amid line x answers) (sym (append-nil begun))
passes_over line (b ∷ bs) begun answers = passes_over line bs (begun ++ b ∷ []) answers ∙ ap (λ (x : List ℕ). amid line x answers) (append_assoc begun (b ∷ []) bs)

abbrev brace : ℕ → List ℕ → List ℕ
brace n line = 125 ∷ (reverse (decimal n) ++ 123 ∷ line)

three : (begun d bytes : List ℕ) → ((((begun ++ 123 ∷ []) ++ d) ++ 125 ∷ []) ++ 13 ∷ 10 ∷ []) ++ bytes ≡ begun ++ (((123 ∷ []) ++ d ++ (125 ∷ 13 ∷ 10 ∷ [])) ++ bytes)
three begun d bytes = simp append_assoc refl

pub literal_text : (line bytes begun : List ℕ) (answers : List (List ℕ)) → length bytes < 2 ^ 64 → cuts (amid line begun answers) (literal bytes) ≡ amid (10 ∷ 13 ∷ brace (length bytes) line) (begun ++ literal bytes) answers
literal_text line bytes begun answers h =
    let n : ℕ = length bytes in
    let d : List ℕ = decimal n in
    let b1 : List ℕ = begun ++ 123 ∷ [] in
    let b2 : List ℕ = b1 ++ d in
    let b3 : List ℕ = b2 ++ 125 ∷ [] in
    ap (λ (c : Cutter). cuts c (d ++ codes "}\r\n" ++ bytes)) (inner_byte line 123 b1 answers refl)
    ∙ ap (cuts (amid (123 ∷ line) b1 answers)) (append_assoc d (codes "}\r\n") bytes)
    ∙ cuts-append (amid (123 ∷ line) b1 answers) d (codes "}\r\n" ++ bytes)
    ∙ ap (λ (c : Cutter). cuts c (125 ∷ 13 ∷ 10 ∷ bytes)) (inner_text (123 ∷ line) d b1 answers (decimal_inner n))
    ∙ ap (λ (c : Cutter). cuts c (13 ∷ 10 ∷ bytes)) (inner_byte (reverse d ++ 123 ∷ line) 125 b3 answers refl)
    ∙ ap (λ (c : Cutter). cuts c (10 ∷ bytes)) (inner_byte (brace n line) 13 (b3 ++ 13 ∷ []) answers refl)
    ∙ ap (λ (o : Option ℕ). cuts (cut_end o (brace n line) ((b3 ++ 13 ∷ []) ++ 10 ∷ []) answers) bytes) (count_is n line h)
    ∙ passes_over (10 ∷ 13 ∷ brace n line) bytes ((b3 ++ 13 ∷ []) ++ 10 ∷ []) answers
    ∙ ap (λ (x : List ℕ). amid (10 ∷ 13 ∷ brace n line) x answers) (ap (λ (x : List ℕ). x ++ bytes) (append_assoc b3 (13 ∷ []) (10 ∷ [])) ∙ three begun d bytes)

-- ---- texts

-- from one line's end to another's, with no tagged line
abbrev pub Passes : List ℕ → Type 0
Passes text = (begun : List ℕ) (answers : List (List ℕ)) → cuts (between begun answers) text ≡ between (begun ++ text) answers

pub passes_none : Passes []
passes_none begun answers = ap (λ (x : List ℕ). between x answers) (sym (append-nil begun))

pub both_pass : (one two : List ℕ) → Passes one → Passes two → Passes (one ++ two)
both_pass one two h k begun answers =
    cuts-append (between begun answers) one two ∙ ap (λ (c : Cutter). cuts c two) (h begun answers) ∙ k (begun ++ one) answers ∙ ap (λ (x : List ℕ). between x answers) (append_assoc begun one two)

-- a line that isn't tagged
pub line_passes : (front : List ℕ) (last : ℕ) → (last == 125) ≡ false → list_all is_inner (front ++ last ∷ []) ≡ true → is_tagged (front ++ last ∷ []) ≡ false → Passes ((front ++ last ∷ []) ++ 13 ∷ 10 ∷ [])
line_passes front last other inner untagged begun answers =
    whole_line (front ++ last ∷ []) begun answers inner (not_a_count front last other) ∙ ap (λ (t : Bool). cut_line t (begun ++ ((front ++ last ∷ []) ++ 13 ∷ 10 ∷ [])) answers) untagged

-- and one that is
abbrev pub Ends : List ℕ → Type 0
Ends text = (begun : List ℕ) (answers : List (List ℕ)) → cuts (between begun answers) text ≡ between [] (answers ++ (begun ++ text) ∷ [])

pub line_ends : (front : List ℕ) (last : ℕ) → (last == 125) ≡ false → list_all is_inner (front ++ last ∷ []) ≡ true → is_tagged (front ++ last ∷ []) ≡ true → Ends ((front ++ last ∷ []) ++ 13 ∷ 10 ∷ [])
line_ends front last other inner tagged begun answers =
    whole_line (front ++ last ∷ []) begun answers inner (not_a_count front last other) ∙ ap (λ (t : Bool). cut_line t (begun ++ ((front ++ last ∷ []) ++ 13 ∷ 10 ∷ [])) answers) tagged

pub then_ends : (one two : List ℕ) → Passes one → Ends two → Ends (one ++ two)
then_ends one two h k begun answers =
    cuts-append (between begun answers) one two ∙ ap (λ (c : Cutter). cuts c two) (h begun answers) ∙ k (begun ++ one) answers ∙ ap (λ (x : List ℕ). between [] (answers ++ x ∷ [])) (append_assoc begun one two)
