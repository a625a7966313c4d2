-- What a session at its seat does, by what is known of the message that it submitted.
use Rattle.std.proofs.Common.{◌≡◌, ◌⊎◌, ℕ, zero, suc, inl, inr, ◌<◌, ◌≤◌, arith, Bool, true, false, List, [], ◌∷◌, ◌++◌, length, drop, refl, sym, ap, ◌∙◌, subst, append-nil, append_assoc, Option, Some, None}
use Rattle.std.specs.Option.{is_some}
use Rattle.delivery_token.specs.declared.CopyKey.{CopyKey}
use Rattle.delivery_token.specs.declared.Verdict.{Verdict}
use Rattle.delivery_token.specs.declared.log.Noted.{Noted}
use Rattle.delivery_token.specs.Copies as submission
use Rattle.delivery_token.specs.Copies.{AreAnswered, SlotsFor}
use Rattle.delivery_token.specs.Laws.{TellPositions}
use Rattle.delivery_token.specs.Verdicts.{AreKnown, Hears}
use Rattle.delivery_token.proofs.Copies.{all_put, no-key}
use Rattle.delivery_token.proofs.Slots.{all-full, heard-for, hears_slots, no-slots}
use Rattle.imap_session.specs.declared.standing.After.{After}
use Rattle.imap_session.specs.Exchange.{Call, Answer, Mailing, Sent, Standing, Turn, may_send}
use Rattle.imap_session.specs.Commands.{turn_of_verdict, without_sent}
use Rattle.imap_session.specs.Dialogue.{Converses, Sends, may_follow}
use Rattle.house_peers.specs.Visitor.{HasAnswered, Visitor, Awaits, IsAnswered, IsSettled, SeatedVisitor, Works, copies_of, keys_of, sent_by, told}
use Rattle.house_peers.specs.HouseSession as place
use Rattle.house_peers.specs.HouseSession.{Answered, AnsweredVerdict, HouseSession, Turned}
use Rattle.house_peers.specs.Visitor as seated
use Rattle.delivery_token.specs.Keys.{AtLeast, Below}
use Rattle.house_peers.proofs.Rising.{NumbersRise, converses_rise, idles_keep, then_rises, verdict_rises}
use Rattle.house_peers.specs.SeatedSession.{HearsVerdict, key_with, Proceeded, SeatedTurned, SeatedSession, StandsForSeated, submitted_at, with_nobody_there, with_place}
use Rattle.house_peers.proofs.Going.{awaiting_rests, ended_rests}

-- ---- one copy

-- where it is answered, its verdict is known
known_of : (seat serial : ℕ) (heard : List Noted) (sent : Option Sent) (slots : List (Option Verdict)) (verdict : Verdict) → is_some sent ≡ true → SlotsFor heard (keys_of seat serial sent) slots
    → AreAnswered heard (submission.due (copies_of seat serial sent) slots) (keys_of seat serial sent) (verdict ∷ []) → (vs : List Verdict) × AreKnown 1 slots vs
known_of seat serial heard None slots verdict e s a = absurd (let x : false ≡ true = e in cc)
known_of seat serial heard (Some sent) slots verdict e s a =
    let keys : List CopyKey = keys_of seat serial (Some sent) in
    let full = all-full heard keys slots (verdict ∷ []) s a.each in
    let put = all_put (length slots) keys (sent.append.mailbox ∷ []) sent.append.text sent.append.flags refl a.put in
    let few = s.few in
    (full.0, record { all = omega (arith, put, few); each = full.1 })

-- where its verdict is known, it is answered
answered_of : (seat serial : ℕ) (heard : List Noted) (sent : Option Sent) (slots : List (Option Verdict)) (verdict : Verdict) → is_some sent ≡ true → SlotsFor heard (keys_of seat serial sent) slots
    → AreKnown 1 slots (verdict ∷ []) → AreAnswered heard (submission.due (copies_of seat serial sent) slots) (keys_of seat serial sent) (verdict ∷ [])
answered_of seat serial heard None slots verdict e s k = absurd (let x : false ≡ true = e in cc)
answered_of seat serial heard (Some sent) slots verdict e s k =
    let keys : List CopyKey = keys_of seat serial (Some sent) in
    let all = k.all in
    record {
      put = no-key (length slots) keys (sent.append.mailbox ∷ []) sent.append.text sent.append.flags (omega (arith, all));
      each = heard-for heard keys slots (verdict ∷ []) s (omega (arith, all)) k.each;
    }

-- where no message was submitted, nothing is kept of one
none_kept : (seat serial : ℕ) (heard : List Noted) (sent : Option Sent) (slots : List (Option Verdict)) → sent ≡ None → SlotsFor heard (keys_of seat serial sent) slots → slots ≡ []
none_kept seat serial heard None [] e s = refl
none_kept seat serial heard None (o ∷ os) e s = absurd (let few = s.few in omega (arith, few))
none_kept seat serial heard (Some sent) slots e s = absurd (let x : Some sent ≡ None = e in cc)

-- ---- keys

-- the same message number, or a greater one, with no copy before it
at_later : (next : CopyKey) (seat serial n m : ℕ) → AtLeast next (record { seat = seat; serial = serial; message = n; recipient = 0 }) → n ≤ m → AtLeast next (record { seat = seat; serial = serial; message = m; recipient = 0 })
at_later next seat serial n m a l = by (less_or_same n m l) a
  where
    less_or_same : (n m : ℕ) → n ≤ m → (n < m) ⊎ (n ≡ m)
    less_or_same zero zero l = inr refl
    less_or_same zero (suc m) l = inl (omega arith)
    less_or_same (suc n) zero l = absurd (omega (arith, l))
    less_or_same (suc n) (suc m) l = elim (less_or_same n m (omega (arith, l))) [ inl h ↦ inl (omega (arith, h)) | inr h ↦ inr (ap suc h) ]

    by : (n < m) ⊎ (n ≡ m) → AtLeast next (record { seat = seat; serial = serial; message = n; recipient = 0 }) → AtLeast next (record { seat = seat; serial = serial; message = m; recipient = 0 })
    by (inr same) a = subst (λ (x : ℕ). AtLeast next (record { seat = seat; serial = serial; message = x; recipient = 0 })) same a
    by (inl lt) (inl e) = inr (subst (λ (x : CopyKey). Below x (record { seat = seat; serial = serial; message = m; recipient = 0 })) (sym e) (inr (refl, inl lt)))
    by (inl lt) (inr (inl s)) = inr (inl s)
    by (inl lt) (inr (inr (s, inl k))) = inr (inr (s, inl (omega (arith, k, lt))))
    by (inl lt) (inr (inr (s, inr (e, k)))) = inr (inr (s, inl (omega (arith, e, lt))))

-- nothing was submitted before, and then a message perhaps was, with a number from there on
rises_on : (next : CopyKey) (seat serial n m : ℕ) (sent : Option Sent) → AtLeast next (record { seat = seat; serial = serial; message = n; recipient = 0 }) → n ≤ m → ((x : Sent) → sent ≡ Some x → n ≤ x.append.message)
    → AtLeast next (key_with seat serial m sent [])
rises_on next seat serial n m None a l later = at_later next seat serial n m a l
rises_on next seat serial n m (Some x) a l later = at_later next seat serial n x.append.message a (later x refl)

ahead_unsent : (seat : ℕ) (next : CopyKey) (serial number : ℕ) (sent : Option Sent) (slots : List (Option Verdict)) → sent ≡ None → AtLeast next (key_with seat serial number sent slots)
    → AtLeast next (record { seat = seat; serial = serial; message = number; recipient = 0 })
ahead_unsent seat next serial number None slots e a = a
ahead_unsent seat next serial number (Some x) slots e a = absurd (let f : Some x ≡ None = e in cc)

-- the message that was submitted is done with
ahead_told : (seat : ℕ) (next : CopyKey) (serial n m : ℕ) (sent : Option Sent) (slots : List (Option Verdict)) → is_some sent ≡ true → ((x : Sent) → sent ≡ Some x → x.append.message < n) → n ≤ m → AtLeast next (key_with seat serial n sent slots)
    → AtLeast next (record { seat = seat; serial = serial; message = m; recipient = 0 })
ahead_told seat next serial n m None slots e below l a = absurd (let f : false ≡ true = e in cc)
ahead_told seat next serial n m (Some x) slots e below l a = by a
  where
    under : x.append.message < n
    under = below x refl

    by : AtLeast next (record { seat = seat; serial = serial; message = x.append.message; recipient = length slots }) → AtLeast next (record { seat = seat; serial = serial; message = m; recipient = 0 })
    by (inl e) = inr (subst (λ (y : CopyKey). Below y (record { seat = seat; serial = serial; message = m; recipient = 0 })) (sym e) (inr (refl, inl (omega (arith, under, l)))))
    by (inr (inl s)) = inr (inl s)
    by (inr (inr (s, inl k))) = inr (inr (s, inl (omega (arith, k, under, l))))
    by (inr (inr (s, inr (e, k)))) = inr (inr (s, inl (omega (arith, e, under, l))))

-- ---- what comes of a call

-- what waited was answered, and the copy of a message that ends it is to be put
record Went {S : Type 0} (step : S → Call → Answer → S → Type 0) (whole : Bool) (seat : ℕ) (next : CopyKey) (heard : List Noted) (v : SeatedVisitor) (old new : S) (p : SeatedSession) : Type 0 where
  pub after : SeatedVisitor
  pub said : List ℕ
  pub works : Works step seat v old new after said
  pub kept : after.session.unsaid ≡ v.session.unsaid ++ said
  pub all : whole ≡ true → HasAnswered after.session
  pub stands : StandsForSeated seat next heard p after

-- a message that is submitted has one of these numbers
abbrev IsBetween : (from below : ℕ) → (sent : Option Sent) → Type 0
IsBetween from below sent = (x : Sent) → sent ≡ Some x → (from ≤ x.append.message) × (x.append.message < below)

-- nothing is kept of a message before, and what was submitted since has a number from here on
went_from : {S : Type 0} (step : S → Call → Answer → S → Type 0) (whole : Bool) (seat : ℕ) (next : CopyKey) (heard : List Noted) (v : SeatedVisitor) (old new : S) (p : SeatedSession) (q : HouseSession) (from : ℕ) → p.number ≡ seat → p.serial ≡ v.serial → p.gone ≡ v.gone
    → p.slots ≡ [] → AtLeast next (record { seat = seat; serial = v.serial; message = from; recipient = 0 }) → (a : Answered step whole v.session old new q) → from ≤ a.after.standing.mailing.number → IsBetween from a.after.standing.mailing.number a.after.standing.mailing.sent
    → Went step whole seat next heard v old new (with_place q p)
went_from step whole seat next heard v old new p q from number serial gone empty ahead a later between =
    let sent : Option Sent = a.after.standing.mailing.sent in
    record {
      after = record { session = a.after; serial = v.serial; gone = v.gone; to_put = copies_of seat v.serial sent };
      said = a.said;
      works = record { answers = a.answers; is = refl };
      kept = a.kept;
      all = a.all;
      stands = record {
        place = λ live. a.stands;
        submitted = ap (λ (x : Standing). x.mailing.sent) a.stands.connection.session;
        number = number;
        serial = serial;
        gone = gone;
        to_put = ap (λ (slots : List (Option Verdict)). drop (length slots) (copies_of seat v.serial sent)) (sym empty);
        verdicts = subst (λ (slots : List (Option Verdict)). SlotsFor heard (keys_of seat v.serial sent) slots) (sym empty) (no-slots heard (keys_of seat v.serial sent));
        numbered = λ x is. (between x is).1;
        ahead = subst (λ (slots : List (Option Verdict)). AtLeast next (key_with seat v.serial a.after.standing.mailing.number sent slots)) (sym empty)
            (rises_on next seat v.serial from a.after.standing.mailing.number sent ahead later (λ x is. (between x is).0));
      };
    }

went : {S : Type 0} (step : S → Call → Answer → S → Type 0) (whole : Bool) (seat : ℕ) (next : CopyKey) (heard : List Noted) (v : SeatedVisitor) (old new : S) (p : SeatedSession) (q : HouseSession) → StandsForSeated seat next heard p v → sent_by v ≡ None
    → Answered step whole v.session old new q → Went step whole seat next heard v old new (with_place q p)
went step whole seat next heard v old new p q s none a =
    let empty = none_kept seat v.serial heard (sent_by v) p.slots none s.verdicts in
    went_from step whole seat next heard v old new p q v.session.standing.mailing.number s.number s.serial s.gone empty
    (ahead_unsent seat next v.serial v.session.standing.mailing.number (sent_by v) p.slots none s.ahead) a rises.0 (λ x is. of x (rises.1 x is))
  where
    rises : NumbersRise v.session.standing.mailing a.after.standing.mailing
    rises = converses_rise step v.session.standing a.answers.sent old new a.said a.answers.how a.after.standing a.answers.converses

    of : (x : Sent) → (sent_by v ≡ Some x) ⊎ ((v.session.standing.mailing.number ≤ x.append.message) × (x.append.message < a.after.standing.mailing.number))
        → (v.session.standing.mailing.number ≤ x.append.message) × (x.append.message < a.after.standing.mailing.number)
    of x (inl is) = absurd (let e : None ≡ Some x = sym none ∙ is in cc)
    of x (inr r) = r

-- nothing was submitted: it answers what waits
pub worked : {S : Type 0} (step : S → Call → Answer → S → Type 0) (whole : Bool) (seat : ℕ) (next : CopyKey) (heard : List Noted) (v : SeatedVisitor) (old new : S) (p : SeatedSession) (q : HouseSession) → StandsForSeated seat next heard p v → p.gone ≡ false
    → p.place.link.session.mailing.sent ≡ None → ((w : Visitor) → place.StandsFor p.place w → Answered step whole w old new q) → Proceeded step whole seat next heard v old new (with_place q p)
worked step whole seat next heard v old new p q s there none goes =
    let unsent : sent_by v ≡ None = sym s.submitted ∙ none in
    let w = went step whole seat next heard v old new p q s unsent (goes v.session (s.place there)) in
    record { after = w.after; said = w.said; proceeds = seated.talks (sym s.gone ∙ there) (seated.works unsent w.works); kept = w.kept; all = λ all live. w.all all; stands = w.stands }

-- behind a verdict, and what was answered then, a message that was submitted has a number that no message before had
between_told : {S : Type 0} (step : S → Call → Answer → S → Type 0) (now mid next : Standing) (verdict : Verdict) (answers : List Answer) (turn : Turn) (sent : List Sends) (old new : S) (said : List ℕ) (how : After)
    → turn_of_verdict now verdict answers ≡ Some turn → turn.standing ≡ mid → Converses step mid sent old new said how next → (now.mailing.number ≤ next.mailing.number) × IsBetween now.mailing.number next.mailing.number next.mailing.sent
between_told step now mid next verdict answers turn sent old new said how played same c =
    let first : NumbersRise (without_sent now).mailing mid.mailing = subst (λ (x : Standing). NumbersRise (without_sent now).mailing x.mailing) same (verdict_rises now verdict answers turn played) in
    let second = then_rises (without_sent now).mailing mid.mailing next.mailing first (converses_rise step mid sent old new said how next c) in
    (second.0, λ x is. of x (second.1 x is))
  where
    of : (x : Sent) → (None ≡ Some x) ⊎ ((now.mailing.number ≤ x.append.message) × (x.append.message < next.mailing.number)) → (now.mailing.number ≤ x.append.message) × (x.append.message < next.mailing.number)
    of x (inl is) = absurd (let e : None ≡ Some x = is in cc)
    of x (inr r) = r

-- The verdict is known: it answers that, and then what waits. Where the next message of a batch was submitted by that, nothing is answered behind it.
pub told_and_worked : {S : Type 0} (step : S → Call → Answer → S → Type 0) (whole : Bool) (seat : ℕ) (next : CopyKey) (heard : List Noted) (v : SeatedVisitor) (old mid new : S) (p : SeatedSession) (q r : HouseSession) (verdict : Verdict) → StandsForSeated seat next heard p v
    → p.gone ≡ false → p.place.link.session.ended ≡ false → is_some p.place.link.session.mailing.sent ≡ true → AreKnown 1 p.slots (verdict ∷ []) → ((w : Visitor) → place.StandsFor p.place w → AnsweredVerdict step verdict w old mid q)
    → ((w : Visitor) → place.StandsFor q w → Answered step whole w mid new r) → Proceeded step whole seat next heard v old new (record { place = r; number = p.number; serial = p.serial; gone = p.gone; slots = [] })
told_and_worked step whole seat next heard v old mid new p q r verdict s there live sent known tells goes =
    let a = tells v.session (s.place there) in
    let number : ℕ = v.session.standing.mailing.number in
    let awaited : is_some (sent_by v) ≡ true = ap (λ (o : Option Sent). is_some o) (sym s.submitted) ∙ sent in
    let between : SeatedVisitor = record { session = a.after; serial = v.serial; gone = v.gone; to_put = [] } in
    let here : SeatedSession = record { place = q; number = p.number; serial = p.serial; gone = p.gone; slots = [] } in
    let b = goes a.after a.stands in
    let rises = between_told step v.session.standing a.after.standing b.after.standing verdict a.answered.answers _ b.answers.sent mid new b.said b.answers.how a.answered.played refl b.answers.converses in
    let ahead = ahead_told seat next v.serial number number (sent_by v) p.slots awaited s.numbered (omega arith) s.ahead in
    let w = went_from step whole seat next heard between mid new here r number s.number s.serial s.gone refl ahead b rises.0 rises.1 in
    let x = w.works.answers in
    let works : Works step seat (told v a.after.standing) mid new w.after w.said = record { answers = record { sent = x.sent; how = x.how; waited = sym a.waits ∙ x.waited; converses = x.converses }; is = w.works.is } in
    let answered : IsAnswered seat heard v verdict = subst (λ (jobs : List _). AreAnswered heard jobs (keys_of seat v.serial (sent_by v)) (verdict ∷ [])) (sym s.to_put) (answered_of seat v.serial heard (sent_by v) p.slots verdict awaited s.verdicts known) in
    record {
      after = w.after;
      said = a.said ++ w.said;
      proceeds = seated.talks (sym s.gone ∙ there) (seated.answers verdict mid a.said w.said a.how a.after.standing (ap (λ (x : Standing). x.ended) (sym (s.place there).connection.session) ∙ live) answered a.answered works refl);
      kept = w.kept ∙ ap (λ (t : List ℕ). t ++ w.said) a.kept ∙ append_assoc v.session.unsaid a.said w.said;
      all = λ all live. w.all all;
      stands = w.stands;
    }

-- ---- nothing is done

unmoved : {S : Type 0} (step : S → Call → Answer → S → Type 0) (whole : Bool) (seat : ℕ) (next : CopyKey) (heard : List Noted) (v : SeatedVisitor) (old : S) (p : SeatedSession) → StandsForSeated seat next heard p v
    → seated.Proceeds step whole seat heard v old old v [] → (whole ≡ true → v.gone ≡ false → HasAnswered v.session) → Proceeded step whole seat next heard v old old p
unmoved step whole seat next heard v old p s proceeds all = record { after = v; said = []; proceeds = proceeds; kept = sym (append-nil v.session.unsaid); all = all; stands = s }

-- a session that may be sent nothing has answered all
may_not : (v : Visitor) → may_follow (may_send v.standing) ≡ false → HasAnswered v
may_not v e free = absurd (let a : may_follow (may_send v.standing) ≡ false = e in let b : may_follow (may_send v.standing) ≡ true = free in cc)

-- the verdict isn't known
pub waited : {S : Type 0} (step : S → Call → Answer → S → Type 0) (seat : ℕ) (next : CopyKey) (heard : List Noted) (v : SeatedVisitor) (old : S) (p : SeatedSession) → StandsForSeated seat next heard p v → p.gone ≡ false
    → is_some p.place.link.session.mailing.sent ≡ true → ((vs : List Verdict) → AreKnown 1 p.slots vs → ⊥) → Proceeded step true seat next heard v old old p
waited step seat next heard v old p s there sent unknown =
    let awaited : is_some (sent_by v) ≡ true = ap (λ (o : Option Sent). is_some o) (sym s.submitted) ∙ sent in
    unmoved step true seat next heard v old p s
    (seated.talks (sym s.gone ∙ there) (seated.waits (record {
      submitted = awaited;
      unheard =
          λ verdict a. let k = known_of seat v.serial heard (sent_by v) p.slots verdict awaited s.verdicts (subst (λ (jobs : List _). AreAnswered heard jobs (keys_of seat v.serial (sent_by v)) (verdict ∷ [])) s.to_put a) in unknown k.0 k.1;
    }) refl refl refl))
    (λ all live. may_not v.session (awaiting_rests v.session.standing awaited))

pub stalled : {S : Type 0} (step : S → Call → Answer → S → Type 0) (seat : ℕ) (next : CopyKey) (heard : List Noted) (v : SeatedVisitor) (old new : S) (p : SeatedSession) → StandsForSeated seat next heard p v → p.gone ≡ false → new ≡ old
    → Proceeded step false seat next heard v old new p
stalled step seat next heard v old new p s there same =
    subst (λ (x : _). Proceeded step false seat next heard v old x p) (sym same)
    (unmoved step false seat next heard v old p s (seated.talks (sym s.gone ∙ there) (seated.stalls refl refl refl refl)) (λ all live. absurd (let x : false ≡ true = all in cc)))

pub ended : {S : Type 0} (step : S → Call → Answer → S → Type 0) (seat : ℕ) (next : CopyKey) (heard : List Noted) (v : SeatedVisitor) (old : S) (p : SeatedSession) → StandsForSeated seat next heard p v → p.gone ≡ false → p.place.link.session.ended ≡ true
    → Proceeded step true seat next heard v old old p
ended step seat next heard v old p s there over =
    let is : v.session.standing.ended ≡ true = ap (λ (x : Standing). x.ended) (sym (s.place there).connection.session) ∙ over in
    unmoved step true seat next heard v old p s (seated.talks (sym s.gone ∙ there) (seated.rests is refl refl refl)) (λ all live. may_not v.session (ended_rests v.session.standing is))

pub unread : {S : Type 0} (step : S → Call → Answer → S → Type 0) (seat : ℕ) (next : CopyKey) (heard : List Noted) (v : SeatedVisitor) (old : S) (p : SeatedSession) → StandsForSeated seat next heard p v → p.gone ≡ true → Proceeded step true seat next heard v old old p
unread step seat next heard v old p s gone =
    unmoved step true seat next heard v old p s (seated.lingers (sym s.gone ∙ gone) refl refl refl)
    (λ all live. absurd (let a : v.gone ≡ true = sym s.gone ∙ gone in let b : v.gone ≡ false = live in cc))

-- ---- what is awaited

pub awaits : (seat : ℕ) (next : CopyKey) (heard : List Noted) (v : SeatedVisitor) (p : SeatedSession) → StandsForSeated seat next heard p v → is_some p.place.link.session.mailing.sent ≡ true → ((vs : List Verdict) → AreKnown 1 p.slots vs → ⊥) → Awaits seat heard v
awaits seat next heard v p s sent unknown =
    let awaited : is_some (sent_by v) ≡ true = ap (λ (o : Option Sent). is_some o) (sym s.submitted) ∙ sent in
    record {
      submitted = awaited;
      unheard = λ verdict a. let k = known_of seat v.serial heard (sent_by v) p.slots verdict awaited s.verdicts (subst (λ (jobs : List _). AreAnswered heard jobs (keys_of seat v.serial (sent_by v)) (verdict ∷ [])) s.to_put a) in unknown k.0 k.1;
    }

pub is_settled : (seat : ℕ) (next : CopyKey) (heard : List Noted) (v : SeatedVisitor) (p : SeatedSession) (verdict : Verdict) → StandsForSeated seat next heard p v → is_some p.place.link.session.mailing.sent ≡ true → AreKnown 1 p.slots (verdict ∷ []) → IsSettled seat heard v
is_settled seat next heard v p verdict s sent known =
    let awaited : is_some (sent_by v) ≡ true = ap (λ (o : Option Sent). is_some o) (sym s.submitted) ∙ sent in
    inr (verdict, subst (λ (jobs : List _). AreAnswered heard jobs (keys_of seat v.serial (sent_by v)) (verdict ∷ [])) (sym s.to_put) (answered_of seat v.serial heard (sent_by v) p.slots verdict awaited s.verdicts known))

-- ---- a copy was put, or a verdict was heard

pub vanished : (seat : ℕ) (next : CopyKey) (heard : List Noted) (v : SeatedVisitor) (p : SeatedSession) → StandsForSeated seat next heard p v → StandsForSeated seat next heard (with_nobody_there p) (seated.unread v)
vanished seat next heard v p s = record {
  place = λ live. absurd (let x : true ≡ false = live in cc);
  submitted = s.submitted;
  number = s.number;
  serial = s.serial;
  gone = refl;
  to_put = s.to_put;
  verdicts = s.verdicts;
  numbered = s.numbered;
  ahead = s.ahead;
}

one_key : (seat serial : ℕ) (sent : Option Sent) → TellPositions (keys_of seat serial sent)
one_key seat serial None i d l = absurd (omega (arith, l))
one_key seat serial (Some sent) zero d l = refl
one_key seat serial (Some sent) (suc i) d l = absurd (omega (arith, l))

pub heard_stands : (seat : ℕ) (next : CopyKey) (heard now : List Noted) (v : SeatedVisitor) (p q : SeatedSession) (r : Noted) → StandsForSeated seat next heard p v → HearsVerdict p r q → now ≡ heard ++ r ∷ [] → StandsForSeated seat next now q v
heard_stands seat next heard now v p q r s h e =
    let keys = keys_of seat v.serial (sent_by v) in
    let same : keys_of p.number p.serial (submitted_at p) ≡ keys = ap (λ (n : ℕ). keys_of n p.serial (submitted_at p)) s.number ∙ ap (λ (n : ℕ). keys_of seat n (submitted_at p)) s.serial ∙ ap (keys_of seat v.serial) s.submitted in
    let o = hears_slots heard keys p.slots r q.slots (one_key seat v.serial (sent_by v)) s.verdicts (subst (λ (ks : List CopyKey). Hears ks p.slots r q.slots) same h.hears) in
    subst (λ (x : SeatedSession). StandsForSeated seat next now x v) (sym h.rest) (record {
      place = s.place;
      submitted = s.submitted;
      number = s.number;
      serial = s.serial;
      gone = s.gone;
      to_put = s.to_put ∙ ap (λ (n : ℕ). drop n (copies_of seat v.serial (sent_by v))) (sym o.many);
      verdicts = subst (λ (x : List Noted). SlotsFor x keys q.slots) (sym e) o.hold;
      numbered = s.numbered;
      ahead = as_many (sent_by v) o.many s.ahead;
    })
  where
    as_many : (sent : Option Sent) → length q.slots ≡ length p.slots → AtLeast next (key_with seat v.serial v.session.standing.mailing.number sent p.slots) → AtLeast next (key_with seat v.serial v.session.standing.mailing.number sent q.slots)
    as_many None l a = a
    as_many (Some x) l a = subst (λ (n : ℕ). AtLeast next (record { seat = seat; serial = v.serial; message = x.append.message; recipient = n })) (sym l) a

-- ---- turns while it idles

pub seat_turned : {S : Type 0} (step : S → Call → Answer → S → Type 0) (count : ℕ) (seat : ℕ) (next : CopyKey) (heard : List Noted) (v : SeatedVisitor) (old new : S) (p : SeatedSession) (q : HouseSession) → StandsForSeated seat next heard p v → p.gone ≡ false
    → ((w : Visitor) → place.StandsFor p.place w → Turned step count w old new q) → SeatedTurned step count seat next heard v old new (with_place q p)
seat_turned step count seat next heard v old new p q s there turns =
    let t = turns v.session (s.place there) in
    let same : t.after.standing.mailing ≡ v.session.standing.mailing = idles_keep step v.session.standing old new [] t.said count t.after.standing t.turned in
    let sent : t.after.standing.mailing.sent ≡ sent_by v = ap (λ (m : Mailing). m.sent) same in
    record {
      session = t.after;
      said = t.said;
      turned = t.turned;
      kept = t.kept;
      waits = t.waits;
      stands = record {
        place = λ live. t.stands;
        submitted = ap (λ (x : Standing). x.mailing.sent) t.stands.connection.session;
        number = s.number;
        serial = s.serial;
        gone = s.gone;
        to_put = s.to_put ∙ ap (λ (o : Option Sent). submission.due (copies_of seat v.serial o) p.slots) (sym sent);
        verdicts = subst (λ (o : Option Sent). SlotsFor heard (keys_of seat v.serial o) p.slots) (sym sent) s.verdicts;
        numbered = λ x is. subst (λ (m : Mailing). x.append.message < m.number) (sym same) (s.numbered x (sym sent ∙ is));
        ahead = subst (λ (m : Mailing). AtLeast next (key_with seat v.serial m.number m.sent p.slots)) (sym same) s.ahead;
      };
    }
