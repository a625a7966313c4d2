use Rattle.std.proofs.Common.{◌≡◌, ◌∙◌, ap, sym, subst, [], Err}
use Rattle.std.proofs.lemmas.List.{append-nil}
use Rattle.world.specs.World as world
use Rattle.house.specs.declared.event.HouseFault.TheVariants as house_faults
use Rattle.house.specs.House.{House}
use Rattle.house.specs.Scene.{with_world}
use Rattle.house.specs.Stands.{StandsFor}
use Rattle.house.proofs.Worldly.{nothing_changes, is_nothing, moves}
use Rattle.house.specs.contracts.house.House.{the_view}
use Rattle.house.proofs.house.House.answer.Goals as goal

pub returns-clause-follows : goal.returns-clause-follows
returns-clause-follows c k s old st =
    let i = c.self.inside in
    let h : House = the_view i in
    let st1 = subst (λ (x : House). StandsFor k x s) (sym c.self.view_is) st in
    let e = c.in_default.ensures in
    let m = moves k h c.answer.new.self s (world.Answer c.args.shard) st1 e.follows e.heard e.next in
    record { after = with_world s m.0; printed = []; plays = m.1; stands = m.2; out = sym (append-nil old) }

pub returns-in-Err-clause-changes_nothing : goal.returns-in-Err-clause-changes_nothing
returns-in-Err-clause-changes_nothing c e k s st t printed m =
    let i = c.self.inside in
    let h : House = the_view i in
    let st1 = subst (λ (x : House). StandsFor k x s) (sym c.self.view_is) st in
    let f : c.fault_of.result ≡ house_faults.Nothing = let e1 = e in cc in
    let n = is_nothing c.in-Err.fault (sym c.fault_of.ensures ∙ f) in
    nothing_changes k h s (world.Answer c.args.shard) st1 (c.in-Err.ensures.changes_nothing (ap (λ x. Err x) n)) t printed m
