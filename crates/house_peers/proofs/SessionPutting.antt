-- The copy of a session's message was put: the session at its seat stands as before, with nothing left to put.
use Rattle.std.proofs.Common.{◌≡◌, ℕ, suc, inl, inr, arith, List, [], ◌∷◌, ◌++◌, length, refl, sym, ap, ◌∙◌, subst, append-nil, Option, Some, None}
use Rattle.std.specs.Prelude.{All}
use Rattle.std.proofs.lemmas.List.Elements.{All-contains}
use Rattle.delivery_token.specs.Keys.{AtLeast, Below, past}
use Rattle.delivery_token.specs.Copies.{heard_at_once, SlotsFor}
use Rattle.delivery_token.specs.declared.CopyKey.{CopyKey}
use Rattle.delivery_token.specs.declared.Job.{Job}
use Rattle.delivery_token.specs.declared.Refusal.{Refusal}
use Rattle.delivery_token.specs.declared.Verdict.{Verdict}
use Rattle.delivery_token.specs.declared.Verdict.TheVariants.{Refused}
use Rattle.delivery_token.specs.declared.log.Noted.{Noted}
use Rattle.delivery_token.specs.Copies as submission
use Rattle.delivery_token.specs.inner.Verdicts.{heard_verdict}
use Rattle.delivery_token.proofs.Copies.{front_within}
use Rattle.delivery_token.proofs.Slots.{slot_now, slots_push}
use Rattle.imap_session.specs.Exchange.{Sent}
use Rattle.house_peers.specs.Visitor.{SeatedVisitor, copies_of, keys_of, sent_by}
use Rattle.house_peers.specs.SeatedSession.{SeatedSession, StandsForSeated, due, key_with, noted_put, submitted_at}

-- the copy of this message
abbrev pub copy_of : ℕ → ℕ → Sent → Job
copy_of seat serial sent = record { key = record { seat = seat; serial = serial; message = sent.append.message; recipient = 0 }; mailbox = sent.append.mailbox; text = sent.append.text; flags = sent.append.flags }

-- what is known where a copy is still to be put: it is that of the message that was submitted, and the only one
pub record IsNextCopy (seat serial : ℕ) (sent : Option Sent) (slots : List (Option Verdict)) (c : Job) (others : List Job) : Type 0 where
  pub message : Sent
  pub submitted : sent ≡ Some message
  pub none_put : slots ≡ []
  pub is : c ≡ copy_of seat serial message
  pub only : others ≡ []

next_of : (seat serial : ℕ) (sent : Option Sent) (slots : List (Option Verdict)) (c : Job) (others : List Job) → submission.due (copies_of seat serial sent) slots ≡ c ∷ others → IsNextCopy seat serial sent slots c others
next_of seat serial None slots c others e = absurd (let l = front_within (length slots) [] c others e in omega (arith, l))
next_of seat serial (Some x) [] c others e =
    record { message = x; submitted = refl; none_put = refl; is = let f : copy_of seat serial x ≡ c = cc in sym f; only = let f : [] ≡ others = cc in sym f }
next_of seat serial (Some x) (o ∷ os) c others e = absurd (let l = front_within (suc (length os)) (copy_of seat serial x ∷ []) c others e in omega (arith, l))

pub next_copy : (seat : ℕ) (next : CopyKey) (heard : List Noted) (v : SeatedVisitor) (p : SeatedSession) (c : Job) (others : List Job) → StandsForSeated seat next heard p v → due p ≡ c ∷ others → IsNextCopy seat v.serial (sent_by v) p.slots c others
next_copy seat next heard v p c others s e =
    let same : copies_of p.number p.serial (submitted_at p) ≡ copies_of seat v.serial (sent_by v) = ap (λ (n : ℕ). copies_of n p.serial (submitted_at p)) s.number ∙ ap (λ (n : ℕ). copies_of seat n (submitted_at p)) s.serial ∙ ap (copies_of seat v.serial) s.submitted in
    next_of seat v.serial (sent_by v) p.slots c others (ap (λ (jobs : List Job). submission.due jobs p.slots) (sym same) ∙ e)

-- its key may be used
pub may_be_used : (seat : ℕ) (next : CopyKey) (serial number : ℕ) (sent : Option Sent) (slots : List (Option Verdict)) (c : Job) (others : List Job) → IsNextCopy seat serial sent slots c others → AtLeast next (key_with seat serial number sent slots) → AtLeast next c.key
may_be_used seat next serial number None slots c others n a = absurd (let e = n.submitted in cc)
may_be_used seat next serial number (Some x) slots c others n a =
    let m : x ≡ n.message = let e : Some x ≡ Some n.message = n.submitted in cc in
    let key : c.key ≡ record { seat = seat; serial = serial; message = x.append.message; recipient = length slots } =
    ap (λ (j : Job). j.key) n.is ∙ ap (λ (y : Sent). record { seat = seat; serial = serial; message = y.append.message; recipient = 0 }) (sym m)
    ∙ ap (λ (l : List (Option Verdict)). record { seat = seat; serial = serial; message = x.append.message; recipient = length l }) (sym n.none_put) in
    subst (AtLeast next) (sym key) a

below_itself : (a : CopyKey) → Below a a → ⊥
below_itself a (inl h) = omega (arith, h)
below_itself a (inr (e, inl h)) = omega (arith, h)
below_itself a (inr (e, inr h)) = omega (arith, h.1)

-- of one copy that was put: what was heard of it at once, or nothing
one_slot : (heard : List Noted) (key : CopyKey) (mailbox : ℕ) (why : Option Refusal) → All (λ (r : Noted). Below r.key key) heard → SlotsFor (heard ++ heard_at_once key mailbox why) (key ∷ []) (heard_verdict why ∷ [])
one_slot heard key mailbox None above = subst (λ (x : List Noted). SlotsFor x (key ∷ []) (None ∷ [])) (sym (append-nil heard))
    (slots_push heard (key ∷ []) [] None (omega arith) (λ i k d l. absurd (omega (arith, l)))
    (λ k r m e. below_itself key (subst (λ (x : CopyKey). Below x key) e (All-contains (λ (x : Noted). Below x.key key) heard r above m))))
one_slot heard key mailbox (Some r) above =
    let now : Noted = record { key = key; mailbox = mailbox; verdict = Refused r } in
    slots_push (heard ++ now ∷ []) (key ∷ []) [] (Some (Refused r)) (omega arith) (λ i k d l. absurd (omega (arith, l))) (λ k. slot_now heard key now refl)

pub put_stands : (seat : ℕ) (next : CopyKey) (heard now : List Noted) (v : SeatedVisitor) (p : SeatedSession) (c : Job) (others : List Job) (why : Option Refusal) (after : CopyKey) → StandsForSeated seat next heard p v
    → IsNextCopy seat v.serial (sent_by v) p.slots c others → after ≡ past c.key → All (λ (r : Noted). Below r.key c.key) heard → now ≡ heard ++ heard_at_once c.key c.mailbox why
    → StandsForSeated seat after now (noted_put (heard_verdict why) p) (record { session = v.session; serial = v.serial; gone = v.gone; to_put = others })
put_stands seat next heard now v p c others why after s n used above heard_now = record {
  place = s.place;
  submitted = s.submitted;
  number = s.number;
  serial = s.serial;
  gone = s.gone;
  to_put = n.only ∙ none_left (sent_by v) n.submitted;
  verdicts = subst (λ (o : Option Sent). SlotsFor now (keys_of seat v.serial o) (p.slots ++ heard_verdict why ∷ [])) (sym n.submitted)
      (subst (λ (slots : List (Option Verdict)). SlotsFor now (keys_of seat v.serial (Some n.message)) (slots ++ heard_verdict why ∷ [])) (sym n.none_put)
      (subst (λ (x : List Noted). SlotsFor x (keys_of seat v.serial (Some n.message)) (heard_verdict why ∷ [])) (sym heard_now)
      (subst (λ (key : CopyKey). SlotsFor (heard ++ heard_at_once c.key c.mailbox why) (key ∷ []) (heard_verdict why ∷ [])) key (one_slot heard c.key c.mailbox why above))));
  numbered = s.numbered;
  ahead = subst (λ (o : Option Sent). AtLeast after (key_with seat v.serial v.session.standing.mailing.number o (p.slots ++ heard_verdict why ∷ []))) (sym n.submitted)
      (subst (λ (slots : List (Option Verdict)). AtLeast after (key_with seat v.serial v.session.standing.mailing.number (Some n.message) (slots ++ heard_verdict why ∷ []))) (sym n.none_put)
      (inl (used ∙ ap past key)));
}
  where
    key : c.key ≡ record { seat = seat; serial = v.serial; message = n.message.append.message; recipient = 0 }
    key = ap (λ (j : Job). j.key) n.is

    none_left : (sent : Option Sent) → sent ≡ Some n.message → [] ≡ submission.due (copies_of seat v.serial sent) (p.slots ++ heard_verdict why ∷ [])
    none_left sent e =
        subst (λ (o : Option Sent). [] ≡ submission.due (copies_of seat v.serial o) (p.slots ++ heard_verdict why ∷ [])) (sym e)
        (subst (λ (slots : List (Option Verdict)). [] ≡ submission.due (copies_of seat v.serial (Some n.message)) (slots ++ heard_verdict why ∷ [])) (sym n.none_put) refl)
