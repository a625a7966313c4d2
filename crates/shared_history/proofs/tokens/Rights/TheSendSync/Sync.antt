use denote.RattleType.{RattleType}
use denote.Param.Send.{IsSync, part_keyless}
use Rattle.shared_history.specs.contracts.tokens.Rights.{the_row}
use Rattle.shared_history.specs.declared.tokens.Rule.{Ghosts}
use Rattle.shared_history.proofs.tokens.Rights.TheSendSync.Send.{send}

pub sync : (E P : RattleType) (g : Ghosts P.Denot E.Denot) → IsSync (the_row E P g)
sync E P g = record { shared = λ d b o κ q. part_keyless (the_row E P g) (send E P g) q d b o }
