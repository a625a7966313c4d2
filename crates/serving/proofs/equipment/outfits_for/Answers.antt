use Rattle.std.proofs.Common.{rules, ◌≡◌, ◌∷◌, [], All, subst, sym}
use Rattle.std.proofs.lemmas.List.Elements.{All-append, All-cons, All-nil, All-tail}
use Rattle.serving_workers.specs.Leaving.{IsOutfit, IsFresh}
use Rattle.serving_workers.specs.declared.accepting.Outfit.{Outfit}
use Rattle.serving.proofs.equipment.outfits_for.Goals as goal

pub loop-line-preserved : goal.loop-line-preserved
loop-line-preserved g c =
    let v = c.loop-line.invariant in
    let Fits : Outfit _ → Type 0 = λ o. IsOutfit g.L.Line.told o in
    let Fresh : _ → Type 0 = λ line. IsFresh (g.L.Line.told line) in
    let one = c.in_ok-outfit_of.field-0 in
    let rest = c.next.new.self.rest.items in
    let first : c.loop-line.line-iterator.rest.items ≡ c.in-Some.line ∷ rest = search rules in (
      search rules,
      search rules,
      subst (All Fits) (sym c.push_reserved.ensures.items) (All-append Fits c.loop-line.all.items (one ∷ []) v.2 (All-cons Fits one [] c.in_ok-outfit_of.ensures (All-nil Fits))),
      All-tail Fresh c.in-Some.line rest (subst (All Fresh) first v.3),
    )
