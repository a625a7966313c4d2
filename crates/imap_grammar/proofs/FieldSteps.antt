-- The fields of an ID, one after the other.
use Rattle.std.proofs.Common.{◌≡◌, ℕ, zero, suc, ◌<◌, List, length, ap, sym, ◌∙◌, arith, length-append}
use Rattle.std.specs.Prelude.{Option, Some, None}
use Rattle.envelope.specs.Reading.{◌>>=◌}
use Rattle.imap_grammar.specs.Front.{past_gap}
use Rattle.imap_grammar.specs.Reading.{next_field, past_field, past_fields}
use Rattle.imap_grammar.proofs.IdLaw.{field_shorter}
use Rattle.imap_grammar.proofs.Tokens.{gap_sound}

-- what is left of the fields is what is left of them all
abbrev pub Left : List ℕ → Option (List ℕ) → Type 0
Left rest whole = (n : ℕ) × (length rest < n) × (past_fields n rest ≡ whole)

pub field_smaller : (rest start next : List ℕ) → past_gap rest ≡ Some start → past_field start ≡ Some next → length next < length rest
field_smaller rest start next e f =
    let g = gap_sound rest start e in
    omega (arith, field_shorter start next f, ap length g.parts, length-append g.gap start)

pub one_field_more : (rest start next : List ℕ) (whole : Option (List ℕ)) → past_gap rest ≡ Some start → past_field start ≡ Some next → Left rest whole → Left next whole
unfolding past_fields
one_field_more rest start next whole e f (zero, lt, h) = absurd (omega (arith, lt))
one_field_more rest start next whole e f (suc n, lt, h) =
    let less : length next < n = omega (arith, lt, field_smaller rest start next e f) in
    let step : past_fields (suc n) rest ≡ past_fields n next = ap (λ o. next_field o (past_fields n) rest) e ∙ ap (λ o. o >>= past_fields n) f in
    (n, less, sym step ∙ h)

pub no_field_more : (rest : List ℕ) (whole : Option (List ℕ)) → past_gap rest ≡ None → Left rest whole → Some rest ≡ whole
unfolding past_fields
no_field_more rest whole e (zero, lt, h) = absurd (omega (arith, lt))
no_field_more rest whole e (suc n, lt, h) = sym (ap (λ o. next_field o (past_fields n) rest) e) ∙ h

pub bad_field : (rest start : List ℕ) (whole : Option (List ℕ)) → past_gap rest ≡ Some start → past_field start ≡ None → Left rest whole → None ≡ whole
unfolding past_fields
bad_field rest start whole e f (zero, lt, h) = absurd (omega (arith, lt))
bad_field rest start whole e f (suc n, lt, h) = sym (ap (λ o. next_field o (past_fields n) rest) e ∙ ap (λ o. o >>= past_fields n) f) ∙ h
