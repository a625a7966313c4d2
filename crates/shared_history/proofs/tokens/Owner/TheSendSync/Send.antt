use denote.RattleType.{RattleType}
use denote.Param.Send.{IsSend}
use Rattle.shared_history.specs.contracts.tokens.Owner.{the_row}
use Rattle.shared_history.specs.declared.tokens.Rule.{Ghosts}
use Rattle.shared_history.proofs.Machine.{owner_keyless}

pub send : (E P : RattleType) (g : Ghosts P.Denot E.Denot) → IsSend (the_row E P g)
send E P g = record {
  owned = λ d vs. ((λ vss. (tt, ((λ uss. (tt, tt)), tt))), owner_keyless E.coded.code d.book d.key d.own);
  leaving = λ k f vs. tt;
}
