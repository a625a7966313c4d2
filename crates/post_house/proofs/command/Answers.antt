use Rattle.std.proofs.Common.{refl}
use Rattle.post_house.proofs.Playing.{done_status, not_two}
use Rattle.post_house.proofs.Telling.{refused_as, told_status}
use Rattle.post_house.proofs.command.Goals as goal

pub returns-clause-status : goal.returns-clause-status
returns-clause-status g c = done_status c.carry_out-done.result c.finish-status.result c.finish-status.ensures

pub returns-clause-not_asked : goal.returns-clause-not_asked
returns-clause-not_asked g c e = absurd (not_two c.carry_out-done.result c.finish-status.result c.finish-status.ensures e)

pub returns-clause-ran : goal.returns-clause-ran
returns-clause-ran g c = record {
  taken = c.in-Ok.ensures.answered;
  asks = c.in-Ok.ensures.asks;
  range = c.in-Ok.ensures.range;
  did = c.carry_out-done.ensures.done;
  status_is = c.finish-status.ensures;
}

pub returns-in-Err-clause-status : goal.returns-in-Err-clause-status
returns-in-Err-clause-status g c = told_status _ _ _ c.tell-status.result _ _ c.tell-status.ensures

pub returns-in-Err-clause-ran : goal.returns-in-Err-clause-ran
returns-in-Err-clause-ran g c = (refl, refused_as _ _ _ _ _ _ _ _ c.kind.ensures c.in-Err.ensures.answered c.tell-status.ensures)
