-- The copies of the one message at hand.
use Rattle.std.proofs.Common.{◌≡◌, ℕ, zero, suc, ◌<◌, ◌≤◌, ◌⊎◌, inl, inr, List, [], ◌∷◌, length, drop, ap, ◌∙◌, arith, length-append, length-drop}
use Rattle.change_ring.specs.Log.{no_flags}
use Rattle.std.specs.Prelude.{All}
use Rattle.std.proofs.lemmas.List.Elements.{All-head}
use Rattle.std.proofs.lemmas.List.{append-nil}
use Rattle.std.proofs.Math.Seq.{drop-nil}
use Rattle.delivery_token.specs.declared.Job.{Job}
use Rattle.lmtp_machine.specs.Dialogue.{Submission}
use Rattle.delivery_token.specs.Copies.{copies}
use Rattle.delivery_token.proofs.Copies.{length-copies}
use Rattle.house_peers.specs.Caller.{copies_of, keys_of}

-- one submission alone
pub copies-one : (ss : List Submission) (s : Submission) → ss ≡ s ∷ [] → copies_of ss ≡ copies s.keys s.mailboxes s.text no_flags
copies-one ss s e = ap copies_of e ∙ append-nil (copies s.keys s.mailboxes s.text no_flags)

pub keys-one : (ss : List Submission) (s : Submission) → ss ≡ s ∷ [] → keys_of ss ≡ s.keys
keys-one ss s e = ap keys_of e ∙ append-nil s.keys

-- there are no more copies than keys
few-copies : (ss : List Submission) → length (copies_of ss) ≤ length (keys_of ss)
few-copies [] = omega arith
few-copies (s ∷ ss) =
    let h = few-copies ss in
    let l = length-copies s.keys s.mailboxes s.text no_flags in
    let a = length-append (copies s.keys s.mailboxes s.text no_flags) (copies_of ss) in
    let b = length-append s.keys (keys_of ss) in
    omega (arith, h, l, a, b)

none-left : {A : Type 0} (n : ℕ) (xs : List A) → length xs ≤ n → drop n xs ≡ []
none-left n [] h = drop-nil n
none-left zero (x ∷ xs) h = absurd (omega arith)
none-left (suc n) (x ∷ xs) h = none-left n xs (omega arith)

-- where as many were put as there are keys, none is left to put
pub none-due : (n : ℕ) (ss : List Submission) → length (keys_of ss) ≤ n → drop n (copies_of ss) ≡ []
none-due n ss h = let f = few-copies ss in none-left n (copies_of ss) (omega (arith, f, h))

-- where one submission of few keys is pending, fewer than 100 copies were put where some are still to be put
pub few-due : (n : ℕ) (ss : List Submission) → (length ss ≡ 1) ⊎ (ss ≡ []) → All (λ (s : Submission). length s.keys ≤ 100) ss → 0 < length (drop n (copies_of ss)) → n < 100
few-due n [] h few more = absurd (let e : drop n (copies_of []) ≡ [] = drop-nil {A = Job} n in omega (arith, ap length e, more))
few-due n (s ∷ []) h few more =
    let l = length-copies s.keys s.mailboxes s.text no_flags in
    let e = ap length (append-nil (copies s.keys s.mailboxes s.text no_flags)) in
    let d = length-drop n (copies_of (s ∷ [])) in
    let k = All-head (λ (s : Submission). length s.keys ≤ 100) s [] few in
    omega (arith, l, e, d, k, more)
few-due n (s ∷ t ∷ ss) (inl h) few more = absurd (omega (arith, h))
few-due n (s ∷ t ∷ ss) (inr h) few more = absurd (let e : s ∷ t ∷ ss ≡ [] = h in cc)
