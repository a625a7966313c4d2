use Rattle.std.proofs.Common.{ap, sym, subst, map, ◌∷◌, [], Vec, IfOk, arith, slice_index_or, false}
use Rattle.std.specs.Global.{Global}
use Rattle.std.proofs.lemmas.List.{length-map}
use Rattle.std.proofs.lemmas.Result.{on_ok_weaker}
use Rattle.delivery_token.specs.declared.Job.{Job}
use Rattle.lane_work.specs.declared.desk.LanePermit.{LanePermit}
use Rattle.shard_queue.specs.Reply.{received, ReceiverPermit}
use Rattle.lane_work.specs.Permits.{AreLive, put_by, overs}
use Rattle.lane_work.specs.Account.{rooms_of}
use Rattle.lane_work.specs.inner.Copies.{WasJudged}
use Rattle.delivery_token.specs.declared.log.Noted.{Noted}
use Rattle.lane_work.specs.Awaiting.{copies_in, verdicts_in}
use Rattle.delivery_token.specs.Verdicts.{unknown}
use Rattle.lane_work.proofs.AwaitedLaws.{tried_counts}
use Rattle.lane_work.proofs.CopyLaws.{judged_at_once, judged_later}
use Rattle.lane_work.proofs.PermitLaws.{live_at, live_still, overs_length, permits_length}
use Rattle.envelope.specs.Names.{shard_of}
use Rattle.lane_work.proofs.carrying.judge.Goals as goal

pub returns-in-Some-clause-judged : goal.returns-in-Some-clause-judged
returns-in-Some-clause-judged g c =
    let lanes = c.args.context.now.intake.now.lanes.items in
    let before = c.args.desk.now.permits.items in
    let after = c.put_copy.new.desk.permits.items in
    let n = permits_length lanes c.args.desk.now.number before c.requires.permits in
    let b = length-map before put_by in
    let a = length-map after put_by in
    let s = overs_length after before c.put_copy.ensures.same.3 in
    let w = c.put_copy.ensures.within in
    judged_at_once c.args.context.now.intake.now.directory (rooms_of lanes) c.args.desk.now.number (record { key = c.args.key; mailbox = c.args.mailbox; text = c.args.text.now; flags = c.args.flags }) c.put_copy.result c.in-Some.verdict
    (received c.put_copy.new.desk.receiver) (map put_by before) (map put_by after) (omega (arith, n, b, w)) (omega (arith, a, b, s)) c.in-Some.is (c.put_copy.ensures.put (live_at before (shard_of c.args.context.now.intake.now.directory c.args.mailbox) c.requires.live))

pub returns-in-None-clause-judged : goal.returns-in-None-clause-judged
returns-in-None-clause-judged g c =
    let lanes = c.args.context.now.intake.now.lanes.items in
    let before = c.args.desk.now.permits.items in
    let after = c.put_copy.new.desk.permits.items in
    let n = permits_length lanes c.args.desk.now.number before c.requires.permits in
    let b = length-map before put_by in
    let a = length-map after put_by in
    let s = overs_length after before c.put_copy.ensures.same.3 in
    let w = c.put_copy.ensures.within in
    subst (λ (v : Vec (LanePermit Job) Global). IfOk c.hear_one.result (λ verdict. WasJudged c.args.context.now.intake.now.directory (rooms_of lanes) c.args.desk.now.number (record { key = c.args.key; mailbox = c.args.mailbox; text = c.args.text.now; flags = c.args.flags }) verdict (received c.hear_one.new.desk.receiver) (map put_by before) (map put_by v.items))) (sym c.hear_one.ensures.same.1)
    (judged_later c.args.context.now.intake.now.directory (rooms_of lanes) c.args.desk.now.number (record { key = c.args.key; mailbox = c.args.mailbox; text = c.args.text.now; flags = c.args.flags }) c.put_copy.result c.hear_one.result
    (received c.hear_one.new.desk.receiver) (map put_by before) (map put_by after) (omega (arith, n, b, w)) (omega (arith, a, b, s)) c.in-None.is (c.put_copy.ensures.put (live_at before (shard_of c.args.context.now.intake.now.directory c.args.mailbox) c.requires.live)) c.hear_one.ensures.heard)

pub returns-in-Some-clause-live : goal.returns-in-Some-clause-live
returns-in-Some-clause-live g c = live_still c.args.desk.now.permits.items c.put_copy.new.desk.permits.items c.put_copy.ensures.same.3 c.requires.live

pub returns-in-None-clause-live : goal.returns-in-None-clause-live
returns-in-None-clause-live g c =
    subst (λ (v : Vec (LanePermit Job) Global). AreLive v.items) (sym c.hear_one.ensures.same.1) (live_still c.args.desk.now.permits.items c.put_copy.new.desk.permits.items c.put_copy.ensures.same.3 c.requires.live)

pub returns-in-Some-clause-only : goal.returns-in-Some-clause-only
returns-in-Some-clause-only g c =
    let put = c.put_copy.ensures in
    let before = c.args.desk.now.permits.items in
    let lanes = permits_length c.args.context.now.intake.now.lanes.items c.args.desk.now.number before c.requires.permits in
    let shard = shard_of c.args.context.now.intake.now.directory c.args.mailbox in
    let counts = tried_counts (map put_by before) (map put_by c.put_copy.new.desk.permits.items) shard c.args.desk.now.number _ c.put_copy.result (slice_index_or (overs before) shard false) _ _
    (omega (arith, put.within, lanes, length-map before put_by)) put.put put.over in
    let some = ap (λ o. unknown (o ∷ [])) c.in-Some.is in
    let heard = ap (λ (x : ReceiverPermit Noted). verdicts_in (received x)) put.same.1 in
    omega (arith, counts, some, heard)

pub returns-in-None-clause-only : goal.returns-in-None-clause-only
returns-in-None-clause-only g c =
    let put = c.put_copy.ensures in
    let before = c.args.desk.now.permits.items in
    let lanes = permits_length c.args.context.now.intake.now.lanes.items c.args.desk.now.number before c.requires.permits in
    let shard = shard_of c.args.context.now.intake.now.directory c.args.mailbox in
    let counts = tried_counts (map put_by before) (map put_by c.put_copy.new.desk.permits.items) shard c.args.desk.now.number _ c.put_copy.result (slice_index_or (overs before) shard false) _ _
    (omega (arith, put.within, lanes, length-map before put_by)) put.put put.over in
    let none = ap (λ o. unknown (o ∷ [])) c.in-None.is in
    let heard = ap (λ (x : ReceiverPermit Noted). verdicts_in (received x)) put.same.1 in
    let kept = ap (λ (v : Vec (LanePermit Job) Global). copies_in (map put_by v.items)) c.hear_one.ensures.same.1 in
    on_ok_weaker c.hear_one.result (λ one. omega (arith, counts, none, heard, kept, one)) c.hear_one.ensures.only

pub returns-in-None-clause-backed : goal.returns-in-None-clause-backed
returns-in-None-clause-backed g c seat was = c.hear_one.ensures.backed seat (c.put_copy.ensures.backed seat was)
