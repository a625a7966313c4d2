-- The domains of a route, one after the other.
use Rattle.std.proofs.Common.{◌≡◌, ℕ, zero, suc, ◌<◌, ◌≤◌, Bool, true, false, cond, List, [], ◌∷◌, length, drop, refl, ap, sym, ◌∙◌, arith, length-drop}
use Rattle.std.specs.Prelude.{Option, Some, None}
use Rattle.envelope.specs.Reading.{◌>>=◌, first_is, domain_len, past_byte, past_domain, past_comma, next_hop, past_hops, past_all_hops}

dropped : (n : ℕ) (bytes r : List ℕ) → Some (drop n bytes) ≡ Some r → length r ≤ length bytes
dropped n bytes r e =
    let same : drop n bytes ≡ r = cc in
    omega (arith, length-drop n bytes, ap length same)

shorter_by : (o : Option ℕ) (bytes r : List ℕ) → (o >>= (λ n. Some (drop n bytes))) ≡ Some r → length r ≤ length bytes
shorter_by None bytes r e = absurd cc
shorter_by (Some n) bytes r e = dropped n bytes r e

pub domain_shorter : (bytes r : List ℕ) → past_domain bytes ≡ Some r → length r ≤ length bytes
domain_shorter bytes r e = shorter_by (domain_len bytes) bytes r e

byte_shorter_at : (t : Bool) (x : ℕ) (xs r : List ℕ) → cond t (Some xs) None ≡ Some r → length r < length (x ∷ xs)
byte_shorter_at true x xs r e =
    let same : xs ≡ r = cc in
    omega (arith, ap length same)
byte_shorter_at false x xs r e = absurd cc

pub byte_shorter : (b : ℕ) (bytes r : List ℕ) → past_byte b bytes ≡ Some r → length r < length bytes
byte_shorter b [] r e = absurd cc
byte_shorter b (x ∷ xs) r e = byte_shorter_at (first_is b (x ∷ xs)) x xs r e

both_shorter : (o : Option (List ℕ)) (bytes r : List ℕ) → past_byte 44 bytes ≡ o → (o >>= past_byte 64) ≡ Some r → length r < length bytes
both_shorter None bytes r h e = absurd cc
both_shorter (Some x) bytes r h e =
    let first = byte_shorter 44 bytes x h in
    let second = byte_shorter 64 x r e in
    omega arith

pub comma_shorter : (bytes r : List ℕ) → past_comma bytes ≡ Some r → length r < length bytes
comma_shorter bytes r e = both_shorter (past_byte 44 bytes) bytes r refl e

bind_same : {A : Type 0} (o : Option A) (f g : A → Option A) → ((r : A) → o ≡ Some r → f r ≡ g r) → (o >>= f) ≡ (o >>= g)
bind_same None f g h = refl
bind_same (Some r) f g h = h r refl

next_same : (o : Option (List ℕ)) (f g : List ℕ → Option (List ℕ)) (bytes : List ℕ) → o ≡ past_comma bytes
    → ((r : List ℕ) → length r < length bytes → f r ≡ g r) → next_hop o f bytes ≡ next_hop o g bytes
next_same None f g bytes e h = refl
next_same (Some start) f g bytes e h =
    bind_same (past_domain start) f g (λ r k.
    let one = comma_shorter bytes start (sym e) in
    let two = domain_shorter start r k in
    h r (omega arith))

-- enough turns are enough
fuel : (n m : ℕ) (bytes : List ℕ) → length bytes < n → length bytes < m → past_hops n bytes ≡ past_hops m bytes
unfolding past_hops
fuel zero m bytes h k = absurd (omega arith)
fuel (suc n) zero bytes h k = absurd (omega arith)
fuel (suc n) (suc m) bytes h k =
    next_same (past_comma bytes) (past_hops n) (past_hops m) bytes refl (λ r s. fuel n m r (omega arith) (omega arith))

pub hops_step : (bytes : List ℕ) → past_all_hops bytes ≡ next_hop (past_comma bytes) past_all_hops bytes
unfolding past_hops past_all_hops
hops_step bytes =
    next_same (past_comma bytes) (past_hops (length bytes)) past_all_hops bytes refl
    (λ r s. fuel (length bytes) (suc (length r)) r s (omega arith))

pub no_hop : (bytes : List ℕ) → past_comma bytes ≡ None → past_all_hops bytes ≡ Some bytes
no_hop bytes e = hops_step bytes ∙ ap (λ (o : Option (List ℕ)). next_hop o past_all_hops bytes) e

pub bad_hop : (bytes start : List ℕ) → past_comma bytes ≡ Some start → past_domain start ≡ None → past_all_hops bytes ≡ None
bad_hop bytes start e f =
    hops_step bytes ∙ ap (λ (o : Option (List ℕ)). next_hop o past_all_hops bytes) e ∙ ap (λ (o : Option (List ℕ)). o >>= past_all_hops) f

pub one_hop : (bytes start rest : List ℕ) → past_comma bytes ≡ Some start → past_domain start ≡ Some rest → past_all_hops bytes ≡ past_all_hops rest
one_hop bytes start rest e f =
    hops_step bytes ∙ ap (λ (o : Option (List ℕ)). next_hop o past_all_hops bytes) e ∙ ap (λ (o : Option (List ℕ)). o >>= past_all_hops) f
