use Rattle.std.proofs.Common.{rules, ◌≡◌, ◌∷◌, ℕ, All, Vec, subst, sym}
use Rattle.std.specs.Global.{Global}
use Rattle.std.proofs.lemmas.List.Elements.{All-head, All-nil, All-tail}
use Rattle.delivery_token.specs.Text.{Text}
use Rattle.delivery_token.specs.declared.CopyKey.{CopyKey}
use Rattle.house_shared.specs.Crew.{AllAt}
use Rattle.reckoning.specs.Shelves.{AreNumbered, AreToldOnce, HasAccepted}
use Rattle.reckoning.specs.Shelves.{IsTaught}
use Rattle.reckoning.proofs.shelves.take_out.Goals as goal

pub loop-locked-init : goal.loop-locked-init
loop-locked-init g c =
    let Numbered : Vec (CopyKey × ℕ) Global → Type 0 = λ v. AreNumbered v.items in
    let Once : Vec (ℕ × Text) Global → Type 0 = λ v. AreToldOnce v.items in
    let front = c.args.front.now in
    let none = sym c.in_ok-with_capacity.ensures.items in
    let all : c.into_iter-locked-iterator.result.rest.items ≡ c.args.unlocked.items = search rules in (
      search rules,
      search rules,
      subst (All Numbered) none (All-nil Numbered),
      subst (All Once) (sym c.in_ok-with_capacity-2.ensures.items) (All-nil Once),
      subst (AllAt (HasAccepted front) 0) none tt,
      subst (All (IsTaught front)) (sym all) c.requires.taught,
    )

pub add_taught-requires-clause-taught : goal.add_taught-requires-clause-taught
add_taught-requires-clause-taught g c =
    let front = c.args.front.now in
    let is : c.loop-locked.locked-iterator.rest.items ≡ c.in-Some.locked ∷ c.next.new.self.rest.items = search rules in
    All-head (IsTaught front) c.in-Some.locked c.next.new.self.rest.items (subst (All (IsTaught front)) is c.loop-locked.invariant.5)

pub loop-locked-preserved : goal.loop-locked-preserved
loop-locked-preserved g c =
    let front = c.args.front.now in
    let v = c.loop-locked.invariant in
    let is : c.loop-locked.locked-iterator.rest.items ≡ c.in-Some.locked ∷ c.next.new.self.rest.items = search rules in (
      search rules,
      search rules,
      c.in_ok-add_taught.ensures.numbered,
      c.in_ok-add_taught.ensures.once,
      c.in_ok-add_taught.ensures.accepted,
      All-tail (IsTaught front) c.in-Some.locked c.next.new.self.rest.items (subst (All (IsTaught front)) is v.5),
    )
