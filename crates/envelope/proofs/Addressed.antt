-- What RCPT and MAIL say, from the parts that were read.
use Rattle.std.proofs.Common.{◌≡◌, ℕ, ◌-◌, Bool, true, false, cond, List, length, take, ap, sym, ◌∙◌, arith, length-take}
use Rattle.std.proofs.lemmas.Bool.Decides.{Decides-eqb}
use Rattle.envelope.proofs.Case.{decides_false}
use Rattle.std.specs.Prelude.{Option, Some, None, Result, Ok, Err, codes, nat_lt, ◌==◌, ◌||◌, not, if◌then◌else◌}
use Rattle.envelope.specs.declared.command.CommandFault.{CommandFault}
use Rattle.envelope.specs.declared.command.CommandFault.TheVariants.{PathTooLong, Parameter}
use Rattle.envelope.specs.declared.command.Verb.TheVariants as verbs
use Rattle.envelope.specs.Values.{Path, Command}
use Rattle.envelope.specs.Values as say
use Rattle.envelope.specs.Grammar.{Form, Rcpt, has_long_part}
use Rattle.envelope.specs.Reading.{◌>>=◌, past_keyword, forward_at, after_spaces, is_tail, words, addressed, with_words, of_form, form_of}

-- what a RCPT with this path and these bytes behind it is
abbrev pub recipient : ℕ → Path → List ℕ → Result Command CommandFault
recipient spelled path tail =
    if nat_lt 256 spelled || has_long_part path then Err PathTooLong
    else if length (words tail) == 0 then Ok (say.Rcpt path) else Err Parameter

pub addressed_is : (keyword : List ℕ) (at : List ℕ → Option (Path × List ℕ)) (make : List ℕ → Path → List (List ℕ) → Form) (bytes rest : List ℕ) (read : Path × List ℕ)
    → past_keyword keyword (after_spaces bytes) ≡ Some rest → at (after_spaces rest) ≡ Some read → is_tail read.1 ≡ true
    → addressed keyword at make bytes ≡ Some (make (take (length (after_spaces rest) - length read.1) (after_spaces rest)) read.0 (words read.1))
addressed_is keyword at make bytes rest read a b c =
    ap (λ (o : Option (List ℕ)). o >>= (λ (r : List ℕ). at (after_spaces r) >>= with_words make (after_spaces r))) a
    ∙ ap (λ (o : Option (Path × List ℕ)). o >>= with_words make (after_spaces rest)) b
    ∙ ap (λ (t : Bool). cond t (Some (make (take (length (after_spaces rest) - length read.1) (after_spaces rest)) read.0 (words read.1))) None) c

pub recipient_is : (bytes rest tail : List ℕ) (path : Path)
    → past_keyword (codes "TO:") (after_spaces bytes) ≡ Some rest → forward_at (after_spaces rest) ≡ Some (path, tail) → is_tail tail ≡ true
    → of_form verbs.Rcpt (form_of verbs.Rcpt bytes) ≡ recipient (length (after_spaces rest) - length tail) path tail
recipient_is bytes rest tail path a b c =
    let start = after_spaces rest in
    let n : length (take (length start - length tail) start) ≡ length start - length tail = omega (arith, length-take (length start - length tail) start) in
    ap (of_form verbs.Rcpt) (addressed_is (codes "TO:") forward_at Rcpt bytes rest (path, tail) a b c)
    ∙ ap (λ (k : ℕ). recipient k path tail) n

not_long : (long fits : Bool) (path : Path) (tail : List ℕ) → fits ≡ not long
    → (if long then Err PathTooLong else if length (words tail) == 0 then Ok (say.Rcpt path) else Err Parameter)
    ≡ (if fits then (if length (words tail) == 0 then Ok (say.Rcpt path) else Err Parameter) else Err PathTooLong)
not_long true fits path tail e = sym (ap (λ (t : Bool). if t then (if length (words tail) == 0 then Ok (say.Rcpt path) else Err Parameter) else Err PathTooLong) e)
not_long false fits path tail e = sym (ap (λ (t : Bool). if t then (if length (words tail) == 0 then Ok (say.Rcpt path) else Err Parameter) else Err PathTooLong) e)

pub rcpt_gives : (bytes start rest path_start tail : List ℕ) (path : Path) (fits : Bool)
    → start ≡ after_spaces bytes → Some rest ≡ past_keyword (codes "TO:") start → path_start ≡ after_spaces rest
    → Some (path, tail) ≡ forward_at path_start → is_tail tail ≡ true
    → fits ≡ not (nat_lt 256 (length path_start - length tail) || has_long_part path)
    → of_form verbs.Rcpt (form_of verbs.Rcpt bytes)
    ≡ (if fits then (if length (words tail) == 0 then Ok (say.Rcpt path) else Err Parameter) else Err PathTooLong)
rcpt_gives bytes start rest path_start tail path fits a b d e t f =
    recipient_is bytes rest tail path (ap (past_keyword (codes "TO:")) (sym a) ∙ sym b) (ap forward_at (sym d) ∙ sym e) t
    ∙ ap (λ (s : List ℕ). recipient (length s - length tail) path tail) (sym d)
    ∙ not_long (nat_lt 256 (length path_start - length tail) || has_long_part path) fits path tail f

abbrev pub chosen : Bool → Bool → Path → Result Command CommandFault
chosen fits none path = if fits then (if none then Ok (say.Rcpt path) else Err Parameter) else Err PathTooLong

pub is_none : (n m : ℕ) → n ≡ m → n ≡ 0 → (m == 0) ≡ true
is_none n m e h = ap (λ (k : ℕ). k == 0) (sym e ∙ h)

pub is_some : (n m : ℕ) → n ≡ m → (n ≡ 0 → ⊥) → (m == 0) ≡ false
is_some n m e h = decides_false (m == 0) (Decides-eqb m 0) (λ k. h (e ∙ k))
