use denote.RattleType.{RattleType}
use denote.Param.Send.{IsSend}
use Rattle.shared_history.specs.inner.Kept.{rules}
use Rattle.shared_history.specs.contracts.tokens.Seen.{the_row}
use Rattle.shared_history.specs.declared.tokens.Rule.{Ghosts}
use Rattle.shared_history.proofs.Machine.{seen_keyless}

pub send : (E P : RattleType) (g : Ghosts P.Denot E.Denot) → IsSend (the_row E P g)
send E P g = record {
  owned = λ d vs. ((λ vss. (tt, ((λ uss. (tt, tt)), tt))), seen_keyless E.coded.code (rules g.holds g.concerns) d.book d.log);
  leaving = λ k f vs. tt;
}
