use Rattle.std.proofs.Common.{◌≡◌, ◌<◌, ℕ, ap, sym, subst, length, List, arith, Option, Ok, Vec, Global}
use Rattle.std.specs.Prelude.{true, false}
use Rattle.std.proofs.lemmas.Result.{IfOk-weaker, on_err_weaker}
use Rattle.delivery_token.specs.declared.Verdict.{Verdict}
use Rattle.lmtp_machine.specs.Dialogue.{Answered, Submission}
use Rattle.house_peers.specs.HouseConnection.{HouseConnection}
use Rattle.house_peers.specs.inner.Meeting.{meets}
use Rattle.delivery_token.specs.Verdicts.{AreKnown as IsKnown}
use Rattle.house_peers.specs.Taking.{awaited_keys}
use Rattle.house_peers.proofs.Connections.{went_answers, went_waits}
use Rattle.house_peers.proofs.connection.HouseConnection.answer.Goals as goal

-- a message is at hand
some : (ss ts : List Submission) → ss ≡ ts → length ss ≡ 1 → 0 < length ts
some ss ts e h = let l = ap (λ (x : List Submission). length x) e in omega (arith, l, h)

pub returns-in_default-clause-ok : goal.returns-in_default-clause-ok
returns-in_default-clause-ok c k seat next heard b of s =
    went_waits k seat next heard b c.args.self.now s c.requires.one
    (λ vs a. c.in_ok-verdicts.ensures.unknown (ap (λ (o : Option (Vec Verdict Global)). Ok o) c.in_default.is) vs
    (subst (λ (n : ℕ). IsKnown n c.self.inside.verdicts.slots vs) (sym c.awaited.ensures) (subst (λ (x : HouseConnection). IsKnown (length (awaited_keys c.args.self.now)) x.verdicts vs) (sym c.self.view_is) a)))

pub returns-clause-err : goal.returns-clause-err
returns-clause-err c =
    on_err_weaker c.work_off.result
    (λ went k seat next heard b of s.
    let said = c.in_ok-say.ensures.ok k seat next heard b s (some _ _ s.pending c.requires.one) in
    let w = went k seat next heard (meets k seat b (Answered c.deref.result.now)) of said.stands in
    (w.0, went_answers k seat next heard false b c.deref.result.now c.args.self.now c.say.new.self c.work_off.new.self w.0 s c.requires.one said w.1)) c.work_off.ensures.err

pub returns-clause-ok : goal.returns-clause-ok
returns-clause-ok c =
    IfOk-weaker c.work_off.result _ _
    (λ what went k seat next heard b of s.
    let said = c.in_ok-say.ensures.ok k seat next heard b s (some _ _ s.pending c.requires.one) in
    let w = went k seat next heard (meets k seat b (Answered c.deref.result.now)) of said.stands in
    went_answers k seat next heard true b c.deref.result.now c.args.self.now c.say.new.self c.work_off.new.self what s c.requires.one said w) c.work_off.ensures.ok
