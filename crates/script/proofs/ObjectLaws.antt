-- An object, token by token.
use Rattle.std.proofs.Common.{◌≡◌, ◌∙◌, ℕ, List, [], ◌∷◌, ◌++◌, codes, ap, ap₂}
use Rattle.std.specs.Prelude.{decimal}
use Rattle.json.specs.Print.{print}
use Rattle.json.specs.Token.{Token, begin_object, end_object, key, string, number}
use Rattle.json.specs.Written.{Written}
use Rattle.script.specs.Telling.{spelled_object}

-- this token was written, and what stood before stays
abbrev pub Next : Written → Written → Token → Type 0
Next old new t = (new.tokens ≡ old.tokens ++ t ∷ []) × (new.before ≡ old.before)

-- what was written by then
abbrev pub Has : Written → List Token → Type 0
Has w ts = (w.tokens ≡ ts) × (w.before ≡ [])

pub one_more : (old new : Written) (t : Token) (ts : List Token) → Has old ts → Next old new t → Has new (ts ++ t ∷ [])
one_more old new t ts (have, empty) (more, same) = (more ∙ ap (λ (x : List Token). x ++ t ∷ []) have, same ∙ empty)

pub object_is : (n : ℕ) (line printed told items : List ℕ) (w0 w1 w2 w3 w4 w5 w6 w7 w8 : Written) → Has w0 [] → Next w0 w1 begin_object
    → Next w1 w2 (key (codes "number")) → Next w2 w3 (number (decimal n)) → Next w3 w4 (key (codes "line")) → Next w4 w5 (string line)
    → Next w5 w6 (key (codes "printed")) → Next w6 w7 (string printed) → Next w7 w8 end_object → told ≡ w8.before ++ print w8.tokens
    → items ≡ told ++ 10 ∷ [] → items ≡ spelled_object n line printed
object_is n line printed told items w0 w1 w2 w3 w4 w5 w6 w7 w8 none a b c d e f g h is ended =
    let h1 = one_more w0 w1 begin_object [] none a in
    let h2 = one_more w1 w2 (key (codes "number")) _ h1 b in
    let h3 = one_more w2 w3 (number (decimal n)) _ h2 c in
    let h4 = one_more w3 w4 (key (codes "line")) _ h3 d in
    let h5 = one_more w4 w5 (string line) _ h4 e in
    let h6 = one_more w5 w6 (key (codes "printed")) _ h5 f in
    let h7 = one_more w6 w7 (string printed) _ h6 g in
    let h8 = one_more w7 w8 end_object _ h7 h in
    ended ∙ ap (λ (x : List ℕ). x ++ 10 ∷ []) (is ∙ ap₂ (λ (x : List ℕ) (ts : List Token). x ++ print ts) h8.1 h8.0)
