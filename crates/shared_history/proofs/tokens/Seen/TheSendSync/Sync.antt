use denote.RattleType.{RattleType}
use denote.Param.Send.{IsSync, sendable}
use denote.Struct.Owning.{shape}
use denote.Struct.Struct.{Struct}
use Rattle.shared_history.specs.inner.Kept.{rules}
use Rattle.shared_history.specs.contracts.tokens.Seen.{the_row, the_type}
use Rattle.shared_history.specs.declared.tokens.Rule.{Ghosts}
use Rattle.shared_history.proofs.Machine.{seen_keyless}

pub sync : (E P : RattleType) (g : Ghosts P.Denot E.Denot) → IsSync (the_row E P g)
sync E P g = let marker : IsSync (Struct (shape (the_type E P g))) = search sendable depth 20 in
    record { shared = λ d b o κ. (marker.shared (tt, tt) b o κ, seen_keyless E.coded.code (rules g.holds g.concerns) d.book d.log) }
