-- What a relay knows of the messages that it handed over, by the numbers of those that were submitted.
use Rattle.std.proofs.Common.{◌≡◌, inl, inr, ℕ, zero, suc, ◌<◌, Bool, true, false, List, [], ◌∷◌, length, map, Option, None, Some, refl, ap, sym, subst, ◌∙◌, arith}
use Rattle.std.specs.Prelude.{codes, slice_get, slice_index_or}
use Rattle.std.proofs.lemmas.Bool.{false≢true}
use Rattle.std.proofs.lemmas.List.{length-map}
use Rattle.delivery_token.specs.declared.Verdict.{Verdict}
use Rattle.delivery_token.specs.declared.Verdict.TheVariants.{Stored, Refused}
use Rattle.envelope.specs.Names.{Directory}
use Rattle.lmtp_machine.specs.Dialogue.{Submission, verdict_reply}
use Rattle.laws_relay.specs.ReplyLaws.{is_stored, last_line}
use Rattle.laws_relay.specs.Handed.{Handed, is_code, is_taken}
use Rattle.laws_relay.specs.Fates.{Fate, Awaited, Judged, TurnedAway, Unheard, AreCut, AreNamed, HaveFates, IsSubmitted, all_submitted, all_told, awaited, cut, judged, none, same, turned_away, unheard, was_stored}
use Rattle.laws_relay.specs.Concludes.{Names, message_at}
use Rattle.laws_relay.specs.Conclusions.{MayForget, TakenAreStored, WhatIsReadStays}
use Rattle.laws_relay.specs.Numbers.{AreNumbered, MessagesAreNumbered, no_submission, number_of, was_submitted}
use Rattle.laws_relay.proofs.EntryLaws.{apart}
use Rattle.laws_relay.proofs.Positions.{at_or, at_within, none_at, same_some, within_at}

-- ---- the number of a message, where it was submitted

abbrev pub given_if : Bool → ℕ → Option ℕ
given_if true n = Some n
given_if false n = None

abbrev pub fate_at : List Fate → ℕ → Fate
fate_at fates k = slice_index_or fates k Unheard

abbrev pub number_given : List Fate → ℕ → Option ℕ
number_given fates k = given_if (was_submitted (fate_at fates k)) (number_of fates k)

pub given_is : (b : Bool) (m n : ℕ) → given_if b m ≡ Some n → (b ≡ true) × (m ≡ n)
given_is true m n e = (refl, same_some e)
given_is false m n e = absurd (none_at e)

stored_submitted : (fate : Fate) (i : ℕ) → was_stored fate i ≡ true → was_submitted fate ≡ true
stored_submitted (Judged submission verdicts) i e = refl
stored_submitted (Awaited submission) i e = refl
stored_submitted TurnedAway i e = absurd (false≢true e)
stored_submitted Unheard i e = absurd (false≢true e)

-- ---- verdicts

pub stored_at : (verdicts : List Verdict) (i : ℕ) → slice_index_or (map is_stored verdicts) i false ≡ true → (uid : ℕ) × (slice_get verdicts i ≡ Some (Stored uid))
stored_at [] i e = absurd (false≢true e)
stored_at (Stored uid ∷ verdicts) zero e = (uid, refl)
stored_at (Refused why ∷ verdicts) zero e = absurd (false≢true e)
stored_at (verdict ∷ verdicts) (suc i) e = stored_at verdicts i e

pub stored_is : (verdicts : List Verdict) (i uid : ℕ) → slice_get verdicts i ≡ Some (Stored uid) → slice_index_or (map is_stored verdicts) i false ≡ true
stored_is [] i uid e = absurd (none_at e)
stored_is (verdict ∷ verdicts) zero uid e = ap is_stored (same_some e)
stored_is (verdict ∷ verdicts) (suc i) uid e = stored_is verdicts i uid e

-- ---- all that it knows

pub record Knows (directory : Directory) (messages : List Handed) (submissions : List Submission) (answers : List (List Verdict)) : Type 0 where
  pub number : ℕ → Option ℕ
  pub rises : (k m a b : ℕ) → k < m → number k ≡ Some a → number m ≡ Some b → a < b
  pub submitted : (k n : ℕ) → number k ≡ Some n → (s : Submission) × (slice_get submissions n ≡ Some s) × IsSubmitted directory (message_at messages k) s
  pub taken : (k i : ℕ) → is_taken (message_at messages k) i ≡ true → (n : ℕ) × (number k ≡ Some n)
  pub verdict : (k n i : ℕ) (verdicts : List Verdict) → number k ≡ Some n → slice_get answers n ≡ Some verdicts
      → is_taken (message_at messages k) i ≡ slice_index_or (map is_stored verdicts) i false
  pub each : (n : ℕ) (s : Submission) → slice_get submissions n ≡ Some s → (k : ℕ) × (number k ≡ Some n)
  pub answered : (k n : ℕ) → number k ≡ Some n → length (message_at messages k).replies ≡ length (message_at messages k).recipients

-- where as many were answered as were submitted, each of these has all its replies
all_answered : (host : List ℕ) (directory : Directory) {messages : List Handed} {fates : List Fate} → HaveFates host directory messages fates → length (all_told fates) ≡ length (all_submitted fates)
    → (k : ℕ) → was_submitted (fate_at fates k) ≡ true → length (message_at messages k).replies ≡ length (message_at messages k).recipients
all_answered host directory none many k e = absurd (false≢true e)
all_answered host directory (judged message submission verdicts is as_many r h) many zero e =
    ap (λ (rs : List (List ℕ)). length rs) r ∙ length-map (map verdict_reply verdicts) (last_line host) ∙ length-map verdicts verdict_reply ∙ as_many
all_answered host directory (judged message submission verdicts is as_many r h) many (suc k) e = all_answered host directory h (omega (arith, many)) k e
all_answered host directory (turned_away message as_many r h) many zero e = absurd (false≢true e)
all_answered host directory (turned_away message as_many r h) many (suc k) e = all_answered host directory h many k e
all_answered host directory (awaited message submission is r) many k e = absurd (omega (arith, many))
all_answered host directory (unheard message r) many zero e = absurd (false≢true e)
all_answered host directory (unheard message r) many (suc k) e = absurd (false≢true e)

pub knows : (numbers : MessagesAreNumbered) (taken : TakenAreStored) (host : List ℕ) (directory : Directory) (known all : List Handed) (submissions : List Submission) (answers : List (List Verdict))
    → length answers ≡ length submissions → MayForget host directory known all submissions answers → Knows directory all submissions answers
knows numbers taken host directory known all submissions answers many m =
    let are : AreNumbered directory all m.fates = numbers host directory all m.fates m.each in
    let is : (k n : ℕ) → number_given m.fates k ≡ Some n → (was_submitted (fate_at m.fates k) ≡ true) × (number_of m.fates k ≡ n) =
    λ k n e. given_is (was_submitted (fate_at m.fates k)) (number_of m.fates k) n e in
    record {
      number = number_given m.fates;
      rises = λ k l a b below ea eb.
          (let n : number_of m.fates k < number_of m.fates l = are.rises k l below (is k a ea).0 in
          let ia : number_of m.fates k ≡ a = (is k a ea).1 in
          let ib : number_of m.fates l ≡ b = (is l b eb).1 in omega (arith, n, ia, ib));
      submitted = λ k n e.
          (let o = are.of_message k (is k n e).0 in
          let within : number_of m.fates k < length submissions = subst (λ (l : List Submission). number_of m.fates k < length l) m.submissions_are o.0 in
          let here : n < length submissions = subst (λ (x : ℕ). x < length submissions) (is k n e).1 within in
          let s = within_at submissions n here in
          let one : slice_index_or (all_submitted m.fates) (number_of m.fates k) no_submission ≡ s.0 =
          ap (λ (l : List Submission). slice_index_or l (number_of m.fates k) no_submission) m.submissions_are
          ∙ ap (λ (x : ℕ). slice_index_or submissions x no_submission) (is k n e).1 ∙ at_or submissions n s.0 no_submission s.1 in
          (s.0, s.1, subst (λ (x : Submission). IsSubmitted directory (message_at all k) x) one o.1));
      taken = λ k i e.
          (let w : was_submitted (fate_at m.fates k) ≡ true = stored_submitted (fate_at m.fates k) i (sym (taken host directory all m.fates m.each k i) ∙ e) in
          (number_of m.fates k, ap (λ (b : Bool). given_if b (number_of m.fates k)) w));
      verdict = λ k n i verdicts e there.
          (taken host directory all m.fates m.each k i ∙ are.of_verdicts k i (is k n e).0
          ∙ ap (λ (l : List (List Verdict)). slice_index_or (map is_stored (slice_index_or l (number_of m.fates k) [])) i false) m.answers_are
          ∙ ap (λ (x : ℕ). slice_index_or (map is_stored (slice_index_or answers x [])) i false) (is k n e).1
          ∙ ap (λ (vs : List Verdict). slice_index_or (map is_stored vs) i false) (at_or answers n verdicts [] there));
      each = λ n s there.
          (let within : n < length (all_submitted m.fates) = subst (λ (l : List Submission). n < length l) (sym m.submissions_are) (at_within submissions n s there) in
          let p = are.each n within in
          (p.0, ap (λ (b : Bool). given_if b (number_of m.fates p.0)) p.2 ∙ ap Some p.3));
      answered = λ k n e. all_answered host directory m.each (ap (λ (l : List (List Verdict)). length l) m.answers_are ∙ many ∙ sym (ap (λ (l : List Submission). length l) m.submissions_are)) k (is k n e).0;
    }

-- different messages have different numbers
pub one_number : (directory : Directory) (messages : List Handed) (submissions : List Submission) (answers : List (List Verdict)) (h : Knows directory messages submissions answers)
    → (k m a b : ℕ) → h.number k ≡ Some a → h.number m ≡ Some b → a ≡ b → k ≡ m
one_number directory messages submissions answers h k m a b ea eb e = elim (apart k m) [
  | inl below ↦ absurd (let l : a < b = h.rises k m a b below ea eb in omega (arith, l, e))
  | inr o ↦ elim o [
    | inl is ↦ is
    | inr above ↦ absurd (let l : b < a = h.rises m k b a above eb ea in omega (arith, l, e))
  ]
]

-- ---- the recipients of a submission

pub named_at : (directory : Directory) (lines : List (List ℕ)) (mailboxes : List ℕ) → AreNamed directory lines mailboxes → (i mailbox : ℕ) → slice_get mailboxes i ≡ Some mailbox
    → Names directory (slice_index_or lines i []) mailbox
named_at directory [] [] h i mailbox e = absurd (none_at e)
named_at directory [] (m ∷ ms) h i mailbox e = absurd h
named_at directory (l ∷ ls) [] h i mailbox e = absurd h
named_at directory (l ∷ ls) (m ∷ ms) h zero mailbox e = subst (λ (x : ℕ). Names directory l x) (same_some e) h.0
named_at directory (l ∷ ls) (m ∷ ms) h (suc i) mailbox e = named_at directory ls ms h.1 i mailbox e

-- ---- a front of what was told

pub record IsSame (a b : Handed) : Type 0 where
  pub mail : a.mail ≡ b.mail
  pub recipients : a.recipients ≡ b.recipients
  pub lines : a.lines ≡ b.lines

itself : (a : Handed) → IsSame a a
itself a = record { mail = refl; recipients = refl; lines = refl }

pub front_same : {front all : List Handed} → AreCut front all → (k : ℕ) → k < length front → IsSame (message_at front k) (message_at all k)
front_same none k u = absurd (omega (arith, u))
front_same (same message c) zero u = itself message
front_same (same message c) (suc k) u = front_same c k (omega (arith, u))
front_same (cut mail recipients lines told untold) zero u = record { mail = refl; recipients = refl; lines = refl }
front_same (cut mail recipients lines told untold) (suc k) u = absurd (omega (arith, u))

pub taken_there : (messages : List Handed) (k i : ℕ) → is_taken (message_at messages k) i ≡ true → k < length messages
taken_there [] k i e = absurd (false≢true e)
taken_there (m ∷ ms) zero i e = omega arith
taken_there (m ∷ ms) (suc k) i e = let u : k < length ms = taken_there ms k i e in omega (arith, u)

pub reply_there : (replies : List (List ℕ)) (i : ℕ) → is_code (codes "250") (slice_index_or replies i []) ≡ true → i < length replies
reply_there [] i e = absurd (false≢true e)
reply_there (r ∷ rs) zero e = omega arith
reply_there (r ∷ rs) (suc i) e = let u : i < length rs = reply_there rs i e in omega (arith, u)

-- what it has read is what is read by all
pub front_read : (stays : WhatIsReadStays) (front all : List Handed) → AreCut front all → (k i : ℕ) → i < length (message_at front k).replies
    → is_taken (message_at front k) i ≡ is_taken (message_at all k) i
front_read stays front all c k i u = ap (is_code (codes "250")) (stays front all c k i u)

pub front_taken : (stays : WhatIsReadStays) (front all : List Handed) → AreCut front all → (k i : ℕ) → is_taken (message_at front k) i ≡ true → is_taken (message_at all k) i ≡ true
front_taken stays front all c k i e = sym (front_read stays front all c k i (reply_there (message_at front k).replies i e)) ∙ e
