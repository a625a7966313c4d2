use Rattle.std.proofs.Common.{◌≡◌, ◌∙◌, ap, sym, List, ℕ}
use Rattle.std.proofs.Common.{Bool, Option, [], length, subst}
use Rattle.std.specs.Prelude.{true, false}
use Rattle.std.proofs.lemmas.Result.{IfOk-weaker, on_err_weaker}
use Rattle.delivery_token.specs.declared.Verdict.{Verdict}
use Rattle.lmtp_machine.specs.declared.connection.What.{What}
use Rattle.delivery_token.specs.Verdicts.{AreKnown as IsKnown}
use Rattle.house_peers.specs.ConnectionStands.{Proceeded}
use Rattle.house_peers.specs.Taking.{awaited_keys}
use Rattle.house_peers.specs.HouseConnection.{HouseConnection}
use Rattle.house_peers.proofs.Connections.{faded, lingered, proceeds}
use Rattle.house_peers.proofs.connection.HouseConnection.proceed.Goals as goal
use Rattle.house_peers.proofs.connection.HouseConnection.proceed.Goals.{then-are_known, else-are_known}

pub returns-clause-err : goal.returns-clause-err
returns-clause-err c =
    let there = ap (λ (x : HouseConnection). x.gone) (sym c.self.view_is) ∙ c.if-self.false in
    on_err_weaker c.go_on.result
    (λ went k seat next heard b of s. let w = went k seat next heard b of s in (w.0, proceeds k seat next heard false b w.0 c.args.self.now c.go_on.new.self s there w.1)) c.go_on.ensures.err

pub returns-clause-ok : goal.returns-clause-ok
returns-clause-ok c =
    let there = ap (λ (x : HouseConnection). x.gone) (sym c.self.view_is) ∙ c.if-self.false in
    IfOk-weaker c.go_on.result _ _
    (λ what went k seat next heard b of s. proceeds k seat next heard true b what c.args.self.now c.go_on.new.self s there (went k seat next heard b of s)) c.go_on.ensures.ok

-- a peer that is gone is told nothing
silent : (gone : Bool) (unsaid : List ℕ) → (gone ≡ true → unsaid ≡ []) → gone ≡ true → unsaid ≡ []
silent gone unsaid f e = f e

pub returns-then-self-clause-ok : goal.returns-then-self-clause-ok
returns-then-self-clause-ok c k seat next heard b of s =
    let gone : c.args.self.now.gone ≡ true = ap (λ (x : HouseConnection). x.gone) (sym c.self.view_is) ∙ c.if-self.true in
    let none : c.args.self.now.unsaid ≡ [] = ap (λ (x : HouseConnection). x.unsaid) (sym c.self.view_is) ∙ silent c.self.inside.is_gone c.self.inside.unsaid.items c.self.invariant.4 c.if-self.true in
    let slots = ap (λ (x : HouseConnection). x.verdicts) c.self.view_is in
    elim c.if-are_known.branch [
      | then-are_known w ↦ subst (λ (what : What). Proceeded k true seat next heard b what c.args.self.now) (sym w.result-is)
          (faded k seat next heard b c.args.self.now s gone none
          (let a = c.are_known.ensures.known w.if-are_known.true in (a.0, subst (λ (n : ℕ). IsKnown n c.args.self.now.verdicts a.0) c.awaited.ensures (subst (λ (x : List (Option Verdict)). IsKnown c.awaited.result x a.0) slots a.1))))
      | else-are_known w ↦ subst (λ (what : What). Proceeded k true seat next heard b what c.args.self.now) (sym w.result-is)
          (lingered k seat next heard b c.args.self.now s gone none
          (λ vs a. c.are_known.ensures.unknown w.if-are_known.false vs (subst (λ (n : ℕ). IsKnown n c.self.inside.verdicts.slots vs) (sym c.awaited.ensures) (subst (λ (x : List (Option Verdict)). IsKnown (length (awaited_keys c.args.self.now)) x vs) (sym slots) a))))
    ]
