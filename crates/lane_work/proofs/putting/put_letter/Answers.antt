use Rattle.std.proofs.Common.{◌∙◌, subst}
use Rattle.shard_queue.specs.Permits.{number_of, put_seen, sent}
use Rattle.lane_work.specs.Account.{FilledAlone, room_of}
use Rattle.lane_work.proofs.FullLaws.{found_full}
use Rattle.lane_work.proofs.putting.put_letter.Goals as goal

pub returns-in-Err-put_as-clause-put : goal.returns-in-Err-put_as-clause-put
returns-in-Err-put_as-clause-put g c =
    let v = c.loop.invariant in
    let put = c.in-Err-put_as.ensures.put in
    let room = room_of c.args.lane.now in
    let full = found_full room (number_of c.loop.permit) (sent c.loop.permit) (put_seen c.loop.permit) put.3 in
    (put.0 ∙ v.3, put.1 ∙ v.2, subst (λ n. FilledAlone room n (sent c.args.permit.now)) v.1 (subst (λ l. FilledAlone room (number_of c.loop.permit) l) v.2 full))
