-- The first Received field of the written rules is the one that is taken.
use Rattle.std.proofs.Common.{◌≡◌, ℕ, ◌+◌, Bool, true, false, cond, List, [], ◌∷◌, ◌++◌, length, take, drop, refl, ap, sym, ◌∙◌, arith}
use Rattle.std.specs.Prelude.{Option, Some, None, ◌==◌, ◌&&◌, ◌||◌, not, codes}
use Rattle.std.specs.Str.{str_eq_ignore_ascii_case as is_same}
use Rattle.std.specs.Char.{to_ascii_lowercase}
use Rattle.std.proofs.lemmas.List.{take_at, drop_at, length-map}
use Rattle.std.proofs.lemmas.Bool.Decides.{Decides-eqb}
use Rattle.mail_date.specs.Bytes.{is_blank, is_folded, first_is}
use Rattle.mail_date.specs.Fields.{ends_field, field_len, is_empty_line, past_word, past_colon, past_name, body_or, received_body}
use Rattle.mail_date.specs.Header.{Unbroken, AtEnd, Named}
use Rattle.mail_date.specs.Header as header
use Rattle.mail_date.specs.Reading.{◌>>=◌, past_byte}
use Rattle.mail_date.proofs.Again.{span_len}
use Rattle.mail_date.proofs.Steps.{is_same_decides}

-- ---- names

same_length : (x y : List ℕ) → is_same x y ≡ true → length x ≡ length y
same_length x y e = sym (length-map x to_ascii_lowercase) ∙ ap length ((is_same_decides x y).0 e) ∙ length-map y to_ascii_lowercase

word_again : (word name rest : List ℕ) → is_same name word ≡ true → past_word word (name ++ rest) ≡ Some rest
word_again word name rest e =
    let k = same_length name word e in
    ap (λ (l : List ℕ). cond (is_same l word) (Some (drop (length word) (name ++ rest))) None) (take_at name rest (length word) k)
    ∙ ap (λ (t : Bool). cond t (Some (drop (length word) (name ++ rest))) None) e
    ∙ ap (λ (l : List ℕ). Some l) (drop_at name rest (length word) k)

pub named_again : (word text behind : List ℕ) → Named word text behind → past_name word text ≡ Some behind
named_again word text behind n =
    ap (past_name word) n.parts
    ∙ ap (λ (o : Option (List ℕ)). o >>= past_colon) (word_again word n.name (n.blanks ++ 58 ∷ behind) n.same)
    ∙ ap (λ (k : ℕ). past_byte 58 (drop k (n.blanks ++ 58 ∷ behind))) (span_len is_blank n.blanks (58 ∷ behind) n.between refl)
    ∙ ap (past_byte 58) (drop_at n.blanks (58 ∷ behind) (length n.blanks) refl)

-- ---- the end of a field

pub field_again : {body : List ℕ} → Unbroken body → {rest : List ℕ} → AtEnd rest → field_len (body ++ rest) ≡ length body
field_again header.end header.text = refl
field_again header.end (header.line {more} k) = ap (λ (t : Bool). cond (not t) 0 (1 + field_len more)) k
field_again (header.byte {b} {text} e u) {rest} t =
    let n = field_again u t in
    ap (λ (t : Bool). cond (t && not (is_folded (text ++ rest))) 0 (1 + field_len (text ++ rest))) e ∙ omega (arith, n)
field_again (header.fold {b} {text} w u) {rest} t =
    let n = field_again u t in
    ap (λ (t : Bool). cond (not t) 0 (1 + field_len (b ∷ (text ++ rest)))) w ∙ omega (arith, n)

pub passed : {field : List ℕ} → Unbroken field → (more : List ℕ) → is_folded more ≡ false → received_body false (field ++ 10 ∷ more) ≡ received_body true more
passed header.end more k = ap (λ (t : Bool). received_body (not t) more) k
passed (header.byte {b} {text} e u) more k =
    ap (λ (t : Bool). received_body (t && not (is_folded (text ++ 10 ∷ more))) (text ++ 10 ∷ more)) e ∙ passed u more k
passed (header.fold {b} {text} w u) more k =
    ap (λ (t : Bool). received_body (not t) (b ∷ (text ++ 10 ∷ more))) w ∙ passed u more k

-- ---- lines

-- a line that is neither empty nor a Received field's
pub another_line : (text : List ℕ) → is_empty_line text ≡ false → past_name (codes "Received") text ≡ None → received_body true text ≡ received_body false text
another_line [] h k = refl
another_line (b ∷ bs) h k =
    ap (λ (t : Bool). cond t None (body_or (past_name (codes "Received") (b ∷ bs)) (received_body (ends_field b bs) bs))) h
    ∙ ap (λ (o : Option (List ℕ)). body_or o (received_body (ends_field b bs) bs)) k

none_some : (v : List ℕ) (o : Option (List ℕ)) → o ≡ None → o ≡ Some v → ⊥
none_some v None e f = absurd cc
none_some v (Some w) e f = absurd cc

no_lf : (bs : List ℕ) → past_name (codes "Received") (10 ∷ bs) ≡ None
no_lf bs = refl

no_cr : (bs : List ℕ) → past_name (codes "Received") (13 ∷ bs) ≡ None
no_cr bs = refl

-- a Received field's line isn't empty
named_line : (b : ℕ) (bs v : List ℕ) → past_name (codes "Received") (b ∷ bs) ≡ Some v → is_empty_line (b ∷ bs) ≡ false
named_line b bs v e = by (b == 10) (b == 13) refl refl
  where
    at : (c : ℕ) → (b == c) ≡ true → past_name (codes "Received") (c ∷ bs) ≡ None → ⊥
    at c k n = none_some v (past_name (codes "Received") (b ∷ bs)) (ap (λ (x : ℕ). past_name (codes "Received") (x ∷ bs)) ((Decides-eqb b c).0 k) ∙ n) e

    by : (p q : Bool) → (b == 10) ≡ p → (b == 13) ≡ q → (p || (q && first_is 10 bs)) ≡ false
    by true q f g = absurd (at 10 f (no_lf bs))
    by false true f g = absurd (at 13 g (no_cr bs))
    by false false f g = refl

pub here_again : (text body rest : List ℕ) → Named (codes "Received") text (body ++ rest) → Unbroken body → AtEnd rest → received_body true text ≡ Some body
here_again [] body rest n u t = absurd (none_some (body ++ rest) (past_name (codes "Received") []) refl (named_again (codes "Received") [] (body ++ rest) n))
here_again (b ∷ bs) body rest n u t =
    let k = named_again (codes "Received") (b ∷ bs) (body ++ rest) n in
    let others = received_body (ends_field b bs) bs in
    ap (λ (t : Bool). cond t None (body_or (past_name (codes "Received") (b ∷ bs)) others)) (named_line b bs (body ++ rest) k)
    ∙ ap (λ (o : Option (List ℕ)). body_or o others) k
    ∙ ap (λ (m : ℕ). Some (take m (body ++ rest))) (field_again u t)
    ∙ ap (λ (l : List ℕ). Some l) (take_at body rest (length body) refl)
