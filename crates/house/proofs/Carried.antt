-- What a session said over one store it said over another, where each call of the one is the same call of the other.
use Rattle.std.proofs.Common.{Bool, ℕ, List, [], refl, sym, subst}
use Rattle.delivery_token.specs.declared.log.Noted.{Noted}
use Rattle.imap_session.specs.Exchange.{Call, Answer}
use Rattle.imap_session.proofs.Carried.{Carries, converses_carried, turns_carried, verdict_carried}
use Rattle.house_peers.specs.Visitor.{Visitor, GoesOn, SeatedVisitor, Works, answers, rests, stalls, told, waits, works}
use Rattle.house.specs.Printing.{Idles, Speaks}

works_carried : {S T : Type 0} (step : S → Call → Answer → S → Type 0) (other : T → Call → Answer → T → Type 0) (Stands : S → T → Type 0) → Carries step other Stands
    → (seat : ℕ) (v : SeatedVisitor) (old new : S) (after : SeatedVisitor) (said : List ℕ) (t : T) → Works step seat v old new after said → Stands old t → (u : T) × Works other seat v t u after said × Stands new u
works_carried step other Stands carries seat v old new after said t w stands =
    let a = w.answers in
    let c = converses_carried step other Stands carries v.session.standing a.sent old new said a.how after.session.standing t a.converses stands in
    (c.0, record { answers = record { sent = a.sent; how = a.how; waited = a.waited; converses = c.1 }; is = w.is }, c.2)

goes_carried : {S T : Type 0} (step : S → Call → Answer → S → Type 0) (other : T → Call → Answer → T → Type 0) (Stands : S → T → Type 0) → Carries step other Stands
    → (whole : Bool) (seat : ℕ) (heard : List Noted) (v : SeatedVisitor) (old new : S) (after : SeatedVisitor) (said : List ℕ) (t : T) → GoesOn step whole seat heard v old new after said → Stands old t
    → (u : T) × GoesOn other whole seat heard v t u after said × Stands new u
goes_carried step other Stands carries whole seat heard v old new after said t (works n w) stands =
    let c = works_carried step other Stands carries seat v old new after said t w stands in
    (c.0, works n c.1, c.2)
goes_carried step other Stands carries whole seat heard v old new after said t (answers verdict mid first second how next still known a w e) stands =
    let one = verdict_carried step other Stands carries v.session.standing verdict old mid [] first how next t a stands in
    let two = works_carried step other Stands carries seat (told v next) mid new after second one.0 w one.2 in
    (two.0, answers verdict one.0 first second how next still known one.1 two.1 e, two.2)
goes_carried step other Stands carries whole seat heard v old new after said t (waits awaited same is silent) stands =
    (t, waits awaited refl is silent, subst (λ s. Stands s t) (sym same) stands)
goes_carried step other Stands carries whole seat heard v old new after said t (rests over same is silent) stands =
    (t, rests over refl is silent, subst (λ s. Stands s t) (sym same) stands)
goes_carried step other Stands carries whole seat heard v old new after said t (stalls part same is silent) stands =
    (t, stalls part refl is silent, subst (λ s. Stands s t) (sym same) stands)

pub speaks_carried : {S T : Type 0} (step : S → Call → Answer → S → Type 0) (other : T → Call → Answer → T → Type 0) (Stands : S → T → Type 0) → Carries step other Stands
    → (whole : Bool) (seat n : ℕ) (heard : List Noted) (before : SeatedVisitor) (old new : S) (after : SeatedVisitor) (printed : List ℕ) (t : T) → Speaks step whole seat n heard before old new after printed → Stands old t
    → (u : T) × Speaks other whole seat n heard before t u after printed × Stands new u
speaks_carried step other Stands carries whole seat n heard before old new after printed t s stands =
    let c = goes_carried step other Stands carries whole seat heard before old new s.spoken s.said t s.goes stands in
    (c.0, record { spoken = s.spoken; said = s.said; goes = c.1; still = s.still; prints = s.prints; is = s.is }, c.2)

pub idles_carried : {S T : Type 0} (step : S → Call → Answer → S → Type 0) (other : T → Call → Answer → T → Type 0) (Stands : S → T → Type 0) → Carries step other Stands
    → (n : ℕ) (before : Visitor) (old new : S) (after : Visitor) (count : ℕ) (printed : List ℕ) (t : T) → Idles step n before old new after count printed → Stands old t
    → (u : T) × Idles other n before t u after count printed × Stands new u
idles_carried step other Stands carries n before old new after count printed t i stands =
    let c = turns_carried step other Stands carries before.standing old new [] i.said count after.standing t i.turned stands in
    (c.0, record { said = i.said; turned = c.1; waits = i.waits; prints = i.prints }, c.2)
