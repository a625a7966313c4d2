-- How the work that is left becomes less.
use Rattle.std.proofs.Common.{◌≡◌, inl, inr, Bool, true, nat_eq, sym, ℕ, ◌+◌, ◌*◌, ◌<◌, ◌≤◌, List, [], ◌∷◌, length, drop, refl, ap, ◌∙◌, arith, Option, Some, None, length-drop, append-nil}
use Rattle.change_ring.specs.Log.{no_flags}
use Rattle.std.proofs.lemmas.Bool.{eqb-true}
use Rattle.std.proofs.Math.Seq.{drop-length, drop-nil}
use Rattle.std.proofs.lemmas.List.Elements.{All-head}
use Rattle.delivery_token.specs.declared.Job.{Job}
use Rattle.lmtp_machine.specs.declared.connection.What.{What}
use Rattle.lmtp_machine.specs.declared.connection.What.TheVariants.{More, Submit, Quit}
use Rattle.lmtp_machine.specs.Dialogue.{Submission}
use Rattle.house_peers.specs.inner.Few.{AreFew}
use Rattle.std.specs.Option.{is_some}
use Rattle.delivery_token.specs.Copies.{copies, put_effort}
use Rattle.imap_session.specs.Exchange.{Sent}
use Rattle.imap_session.specs.Store.{Follows, to_follow}
use Rattle.house_peers.specs.Visitor as seated
use Rattle.house_peers.specs.Caller.{copies_of}
use Rattle.house_peers.specs.inner.Taking.{AwaitsIn}
use Rattle.delivery_token.proofs.Copies.{length-copies}

-- at most 100 copies of one message are still to be put
few_copies : (n : ℕ) (ss : List Submission) → length ss ≤ 1 → AreFew ss → length (drop n (copies_of ss)) ≤ 100
few_copies n [] l f = let e = ap length (drop-nil {A = Job} n) in omega (arith, e)
few_copies n (s ∷ []) l f =
    let d = length-drop n (copies_of (s ∷ [])) in
    let e = ap length (append-nil (copies s.keys s.mailboxes s.text no_flags)) in
    let c = length-copies s.keys s.mailboxes s.text no_flags in
    let h = All-head (λ (s : Submission). length s.keys ≤ 100) s [] f in
    omega (arith, d, e, c, h)
few_copies n (s ∷ t ∷ ss) l f = absurd (omega (arith, l))

no_copies : (n : ℕ) (ss : List Submission) → ss ≡ [] → length (drop n (copies_of ss)) ≡ 0
no_copies n ss e = ap (λ (x : List Submission). length (drop n (copies_of x))) e ∙ ap length (drop-nil {A = Job} n)

-- bytes were taken: where copies are to be put now, one byte at least was
pub took_less : (waits : List ℕ) (used n : ℕ) (what : Option What) (before after : List Submission) → before ≡ [] → used ≤ length waits → (what ≡ Some Submit → 0 < used) → AwaitsIn what after → AreFew after
    → 501 * length (drop used waits) + 5 * length (drop n (copies_of after)) ≤ 501 * length waits + 5 * length (drop n (copies_of before))
took_less waits used n None before after e l m a f = let d = length-drop used waits in let z = no_copies n after a in omega (arith, d, z)
took_less waits used n (Some More) before after e l m a f = let d = length-drop used waits in let z = no_copies n after a in omega (arith, d, z)
took_less waits used n (Some Submit) before after e l m a f =
    let d = length-drop used waits in let z = few_copies n after (omega (arith, a)) f in let p = m refl in omega (arith, d, z, p, l)
took_less waits used n (Some Quit) before after e l m a f = let d = length-drop used waits in let z = no_copies n after a in omega (arith, d, z)

-- ---- what waits

pub empty_of : (xs : List ℕ) (b : Bool) → b ≡ nat_eq (length xs) 0 → b ≡ true → xs ≡ []
empty_of [] b e f = refl
empty_of (x ∷ xs) b e f = absurd (let y = eqb-true (length (x ∷ xs)) 0 (sym e ∙ f) in omega (arith, y))

pub all_dropped : (n : ℕ) (xs : List ℕ) → n ≡ length xs → drop n xs ≡ []
all_dropped n xs e = ap (λ (m : ℕ). drop m xs) e ∙ drop-length xs

-- ---- sessions

no_due : (n seat serial : ℕ) → length (drop n (seated.copies_of seat serial None)) ≡ 0
no_due n seat serial = ap length (drop-nil {A = Job} n)

one_due : (n seat serial : ℕ) (sent : Option Sent) → length (drop n (seated.copies_of seat serial sent)) ≤ 1
one_due n seat serial None = let e = no_due n seat serial in omega (arith, e)
one_due n seat serial (Some sent) = let d = length-drop n (seated.copies_of seat serial (Some sent)) in omega (arith, d)

-- nothing was submitted: where a message is now, a byte was taken for it, which outweighs all that follow it
pub went_less : (n seat serial before after rest : ℕ) (old new : Option Sent) → old ≡ None → after ≤ before → (old ≡ None → is_some new ≡ true → after < before) → to_follow new < 32768
    → 163841 * after + (put_effort (drop n (seated.copies_of seat serial new)) + 5 * to_follow new) ≤ 163841 * before + rest
went_less n seat serial before after rest old None none l moves few = let d = no_due n seat serial in omega (arith, d, l)
went_less n seat serial before after rest old (Some sent) none l moves few =
    let d = one_due n seat serial (Some sent) in let m = moves none refl in omega (arith, d, m, few)

-- The verdict was answered: where the next of a batch was submitted by that, nothing was taken, and one less follows.
pub told_less : (n seat serial before after rest : ℕ) (old mid new : Option Sent) → Follows old mid → after ≤ before → (mid ≡ None → is_some new ≡ true → after < before) → to_follow new < 32768 → (is_some mid ≡ true → (after ≡ before) × (new ≡ mid))
    → 163841 * after + (put_effort (drop n (seated.copies_of seat serial new)) + 5 * to_follow new) ≤ 163841 * before + (rest + 5 * to_follow old)
told_less n seat serial before after rest old None new f l moves few same = went_less n seat serial before after (rest + 5 * to_follow old) None new refl l moves few
told_less n seat serial before after rest old (Some sent) new (inl e) l moves few same = absurd (let x : Some sent ≡ None = e in cc)
told_less n seat serial before after rest old (Some sent) new (inr e) l moves few same =
    let s = same refl in
    let many : to_follow new ≡ to_follow (Some sent) = ap to_follow s.1 in
    let d = one_due n seat serial new in
    let l = s.0 in
    omega (arith, d, l, many, e)
