use Rattle.std.proofs.Common.{◌∙◌, ap, subst, sym}
use Rattle.std.proofs.lemmas.Result.{IfOk-weaker}
use Rattle.house_peers.specs.SeatedSession.{SeatedSession, StandsForSeated}
use Rattle.house_peers.proofs.Seating.{seat_turned}
use Rattle.house_peers.proofs.seated.SeatedSession.idle_turn.Goals as goal

pub returns-clause-ok : goal.returns-clause-ok
returns-clause-ok g c =
    let i = c.self.inside in
    let here : SeatedSession = record { place = i.session; number = i.seat; serial = i.serial; gone = i.is_gone; slots = i.verdicts.slots } in
    IfOk-weaker c.idle_turn.result _ _
    (λ count turned seat next heard v s. seat_turned g.S.Store.step count seat next heard v c.args.store.now c.idle_turn.new.store here c.idle_turn.new.self (subst (λ (p : SeatedSession). StandsForSeated seat next heard p v) (sym c.self.view_is) s)
    (ap (λ (p : SeatedSession). p.gone) c.self.view_is ∙ c.requires.there) turned) c.idle_turn.ensures.ok
