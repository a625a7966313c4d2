-- A session that has ended answers nothing of what waits, and no verdict: no definition here lets it.
use Rattle.std.proofs.Common.{◌≡◌, ℕ, Bool, true, false, List, [], refl, sym, ◌∙◌}
use Rattle.delivery_token.specs.declared.log.Noted.{Noted}
use Rattle.imap_session.specs.declared.standing.After.{After}
use Rattle.imap_session.specs.Exchange.{Call, Answer, Standing}
use Rattle.imap_session.specs.Dialogue.{AnswersOne, Bytes, Converses, Line, Sends, goes_on, parts, silent}
use Rattle.house_peers.specs.Visitor as seated
use Rattle.house_peers.specs.Visitor.{GoesOn, SeatedVisitor}

-- only a session that goes on answers what a client sent
one_goes : {S : Type 0} (step : S → Call → Answer → S → Type 0) (now : Standing) (one : Sends) (old new : S) (before after : List ℕ) (how : After) (next : Standing) → AnswersOne step now one old new before after how next → now.ended ≡ false
one_goes step now (Line line) old new before after how next a = a.0
one_goes step now (Bytes bytes) old new before after how next t = t.goes

both : (b : Bool) → b ≡ true → b ≡ false → ⊥
both b over goes = let e : true ≡ false = sym over ∙ goes in cc

pub none_converse : {S : Type 0} (step : S → Call → Answer → S → Type 0) (now : Standing) (sent : List Sends) (old new : S) (said : List ℕ) (how : After) (next : Standing) → now.ended ≡ true → Converses step now sent old new said how next
    → (new ≡ old) × (said ≡ [])
none_converse step now sent old new said how next over (silent a b) = (refl, refl)
none_converse step now sent old new said how next over (parts a b one c d x h stops answered) = absurd (both now.ended over (one_goes step now one old new [] said how next answered))
none_converse step now sent old new said how next over (goes_on a between b one others c mid d first second e follows answered more) =
    absurd (both now.ended over (one_goes step now one old mid [] first _ between answered))

pub nothing_behind_the_end : {S : Type 0} (step : S → Call → Answer → S → Type 0) (whole : Bool) (seat : ℕ) (heard : List Noted) (v : SeatedVisitor) (old new : S) (after : SeatedVisitor) (said : List ℕ) → v.session.standing.ended ≡ true
    → GoesOn step whole seat heard v old new after said → (new ≡ old) × (said ≡ [])
nothing_behind_the_end step whole seat heard v old new after said over (seated.works n w) =
    none_converse step v.session.standing w.answers.sent old new said w.answers.how after.session.standing over w.answers.converses
nothing_behind_the_end step whole seat heard v old new after said over (seated.answers verdict mid first second how next goes known a w e) = absurd (both v.session.standing.ended over goes)
nothing_behind_the_end step whole seat heard v old new after said over (seated.waits a n e f) = (n, f)
nothing_behind_the_end step whole seat heard v old new after said over (seated.rests a n e f) = (n, f)
nothing_behind_the_end step whole seat heard v old new after said over (seated.stalls a n e f) = (n, f)
