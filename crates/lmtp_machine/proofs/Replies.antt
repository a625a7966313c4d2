-- Replies and keys, one more.
use Rattle.std.proofs.Common.{◌≡◌, ℕ, zero, suc, ◌+◌, ◌<◌, List, [], ◌∷◌, ◌++◌, length, map, take, refl, ap, sym, ◌∙◌, append_assoc, arith, add-one, get_or}
use Rattle.std.specs.Prelude.{replicate}
use Rattle.std.proofs.lemmas.List.{map-append, take_more}
use Rattle.line_io.specs.Wire.{crlf}
use Rattle.delivery_token.specs.declared.CopyKey.{CopyKey}
use Rattle.delivery_token.specs.declared.Verdict.{Verdict}
use Rattle.lmtp_machine.specs.declared.reply.Reply.{Reply}
use Rattle.lmtp_machine.specs.Dialogue.{wire, reply_text, Setting, keys_from, verdict_reply}
use Rattle.lmtp_machine.proofs.Calls.{wire-append}

pub told_more : (host : List ℕ) (r : Reply) (i : ℕ) → wire host (replicate (i + 1) r) ≡ wire host (replicate i r) ++ wire host (r ∷ [])
told_more host r i = rw add-one (more i)
  where
    more : (i : ℕ) → wire host (replicate (suc i) r) ≡ wire host (replicate i r) ++ wire host (r ∷ [])
    more zero = refl
    more (suc i) = ap (λ (l : List ℕ). (reply_text host r ++ crlf) ++ l) (more i) ∙ sym (append_assoc (reply_text host r ++ crlf) (wire host (replicate i r)) (wire host (r ∷ [])))

pub answered_more : (host : List ℕ) (verdicts : List Verdict) (i : ℕ) (v : Verdict) → i < length verdicts
    → wire host (map verdict_reply (take (i + 1) verdicts)) ≡ wire host (map verdict_reply (take i verdicts)) ++ wire host (verdict_reply (get_or verdicts i v) ∷ [])
answered_more host verdicts i v h =
    ap (λ (l : List Verdict). wire host (map verdict_reply l)) (take_more verdicts i v h)
    ∙ ap (λ (l : List Reply). wire host l) (map-append verdict_reply (take i verdicts) (get_or verdicts i v ∷ []))
    ∙ wire-append host (map verdict_reply (take i verdicts)) (verdict_reply (get_or verdicts i v) ∷ [])

pub keys_push : (s : Setting) (n i : ℕ) (xs : List ℕ) (x : ℕ)
    → keys_from s n i (xs ++ x ∷ []) ≡ keys_from s n i xs ++ record { seat = s.seat; serial = s.serial; message = n; recipient = i + length xs } ∷ []
keys_push s n i [] x = let e : i ≡ i + 0 = omega arith in ap (λ (k : ℕ). let key : CopyKey = record { seat = s.seat; serial = s.serial; message = n; recipient = k } in key ∷ []) e
keys_push s n i (y ∷ ys) x =
    let first : CopyKey = record { seat = s.seat; serial = s.serial; message = n; recipient = i } in
    let e : (i + 1) + length ys ≡ i + suc (length ys) = omega arith in
    ap (λ (ks : List CopyKey). first ∷ ks) (keys_push s n (i + 1) ys x
    ∙ ap (λ (k : ℕ). let key : CopyKey = record { seat = s.seat; serial = s.serial; message = n; recipient = k } in keys_from s n (i + 1) ys ++ key ∷ []) e)

pub keys_more : (s : Setting) (n i : ℕ) (xs : List ℕ) → i < length xs → length (take i xs) ≡ i
    → keys_from s n 0 (take (i + 1) xs) ≡ keys_from s n 0 (take i xs) ++ record { seat = s.seat; serial = s.serial; message = n; recipient = i } ∷ []
keys_more s n i xs h e =
    let k : 0 + length (take i xs) ≡ i = omega (arith, e) in
    ap (λ (l : List ℕ). keys_from s n 0 l) (take_more xs i 0 h) ∙ keys_push s n 0 (take i xs) (get_or xs i 0)
    ∙ ap (λ (j : ℕ). let key : CopyKey = record { seat = s.seat; serial = s.serial; message = n; recipient = j } in keys_from s n 0 (take i xs) ++ key ∷ []) k
