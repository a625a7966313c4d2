-- A `&` to a `Seen` has what it knows, which can be had twice. Assumes `Logic`.
use mathlib.Core.List.{[], ◌∷◌}
use base.Logic.{snd∗}
use base.Before.{before}
use types.Logic.{sem}
use denote.RattleType.{RattleType}
use denote.Param.Laws.{Laws}
use denote.Param.Shared.{copy_shared}
use denote.Struct.Tuple.{Tuple}
use denote.Struct.Laws.{field_copy}
use denote.Struct.Lending.{of_Lends}
use Rattle.core.specs.contracts.marker.PhantomData as marker
use Rattle.shared_history.specs.inner.Kept.{rules, seen_owns}
use Rattle.shared_history.specs.declared.tokens.Rule.{Ghosts}
use Rattle.shared_history.specs.contracts.tokens.Seen as Seen
use Rattle.shared_history.proofs.Steps.{twice}
use Rattle.shared_history.proofs.Machine.{lends_known}
use Rattle.shared_history.proofs.tokens.Seen.TheLaw.Statement.{statement}

pub shares : (E P : RattleType) (g : Ghosts P.Denot E.Denot) (L : Laws E) (L' : Laws P) → statement E P g L L'
shares E P g L L' =
    let Marked = Tuple (E ∷ P ∷ []) in let rule = rules g.holds g.concerns in
    of_Lends (Seen.struct E P g) (Seen.the_codes E.Denot P.Denot E.coded P.coded (marker.the_row Marked).coded) (Seen.the_heap E P g) (Seen.the_lent E P g)
    (λ d p. record {
      contraction = λ M 𝓤 𝓛 κ. twice E.coded rule 𝓛 d.book d.log;
      mono = λ M 𝓤 𝓛 κ' κ. snd∗ 𝓤 (sem 𝓛 (before κ' κ)) (sem 𝓛 (seen_owns E.coded.code rule d.book d.log));
    })
    (copy_shared (marker.the_field Marked) (field_copy (marker.the_type Marked) tt), tt)
    (λ M 𝓤 𝓛 d p. lends_known 𝓛 (seen_owns E.coded.code rule d.book d.log) (twice E.coded rule 𝓛 d.book d.log) (Seen.the_row E P g).lives)
