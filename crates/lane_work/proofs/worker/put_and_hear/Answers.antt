use Rattle.std.proofs.Common.{rules, ◌≡◌, ◌+◌, ◌∙◌, ap, sym, subst, length, map, Vec, arith}
use Rattle.std.specs.Global.{Global}
use Rattle.std.proofs.lemmas.List.{length-map}
use Rattle.lmtp_machine.specs.Calls.{submission_of}
use Rattle.delivery_token.specs.declared.Job.{Job}
use Rattle.lane_work.specs.declared.desk.LanePermit.{LanePermit}
use Rattle.delivery_token.specs.declared.log.Noted.{Noted}
use Rattle.shard_queue.specs.Reply.{ReceiverPermit, received}
use Rattle.shard_queue.specs.Shared.{IsStartOf}
use Rattle.lane_work.specs.Permits.{put_by}
use Rattle.lane_work.specs.Account.{copies_of, rooms_of}
use Rattle.lane_work.specs.inner.Copies.{HavePut}
use Rattle.delivery_token.proofs.Fills.{fills_length, known_length}
use Rattle.lane_work.proofs.CopyLaws.{books_more}
use Rattle.delivery_token.specs.Verdicts.{unknown}
use Rattle.lane_work.specs.Awaiting.{copies_in, verdicts_in}
use Rattle.lane_work.specs.Ends.{ends_in}
use Rattle.lane_work.proofs.AwaitedLaws.{heard_counts}
use Rattle.lane_work.proofs.PermitLaws.{overs_length}
use Rattle.lane_work.proofs.worker.put_and_hear.Goals as goal

pub note_all-requires-clause-verdicts : goal.note_all-requires-clause-verdicts
note_all-requires-clause-verdicts g c =
    let n = c.put_all.ensures.slots in
    let f = fills_length c.put_all.new.verdicts.slots c.hear_all.new.verdicts.slots c.hear_all.ensures.fills in
    let l = known_length (length c.hear_all.new.verdicts.slots) c.hear_all.new.verdicts.slots c.known_in-verdicts.result.items c.known_in-verdicts.ensures in
    let b = c.as_slice.ensures.len in
    omega (arith, n, f, l, b, c.known_in-verdicts.result.ok.0)

pub note_all-requires-clause-room : goal.note_all-requires-clause-room
note_all-requires-clause-room g c =
    let n = c.put_all.ensures.slots in
    let f = fills_length c.put_all.new.verdicts.slots c.hear_all.new.verdicts.slots c.hear_all.ensures.fills in
    let l = known_length (length c.hear_all.new.verdicts.slots) c.hear_all.new.verdicts.slots c.known_in-verdicts.result.items c.known_in-verdicts.ensures in
    let b = c.as_slice.ensures.len in
    let k = c.len-count.ensures in
    subst (g.N.VerdictLog.has_room c.reserve.new.self) (omega (arith, n, f, l, b, k, c.known_in-verdicts.result.ok.0)) c.in_ok-reserve.ensures.ok

pub known_in-verdicts-requires-clause-room : goal.known_in-verdicts-requires-clause-room
known_in-verdicts-requires-clause-room g c =
    let n = c.put_all.ensures.slots in
    let f = fills_length c.put_all.new.verdicts.slots c.hear_all.new.verdicts.slots c.hear_all.ensures.fills in
    let k = c.len-count.ensures in
    let r = c.in_ok-room.ensures.capacity in
    (c.in_ok-room.ensures.items, omega (arith, n, f, k, r))

pub returns-clause-verdicts : goal.returns-clause-verdicts
returns-clause-verdicts g c =
    let n = c.put_all.ensures.slots in
    let f = fills_length c.put_all.new.verdicts.slots c.hear_all.new.verdicts.slots c.hear_all.ensures.fills in
    let l = known_length (length c.hear_all.new.verdicts.slots) c.hear_all.new.verdicts.slots c.known_in-verdicts.result.items c.known_in-verdicts.ensures in
    omega (arith, n, f, l, c.known_in-verdicts.result.ok.0)

pub returns-clause-books : goal.returns-clause-books
returns-clause-books g c open_to judged books =
    let kept = ap (λ (v : Vec (LanePermit Job) Global). map put_by v.items) (sym c.hear_all.ensures.same.1) in
    let p = c.args.producer.now.desk.number in
    let d = c.args.context.now.intake.now.directory in
    let m = submission_of c.args.message.now in
    let before = map put_by c.args.producer.now.desk.permits.items in
    let mid = c.put_all.new.desk.permits.items in
    books_more d (rooms_of c.args.context.now.intake.now.lanes.items) p judged (g.N.VerdictLog.tells c.args.producer.now.book) (g.N.VerdictLog.tells c.note_all.new.self) (received c.args.producer.now.desk.receiver) (received c.hear_all.new.desk.receiver) m c.put_all.new.verdicts.slots c.hear_all.new.verdicts.slots c.known_in-verdicts.result.items before (map put_by c.hear_all.new.desk.permits.items)
    (search rules) (search rules) (c.put_all.ensures.tried open_to) c.hear_all.ensures.fills c.known_in-verdicts.ensures.each
    (subst (HavePut d p (copies_of m) c.put_all.new.verdicts.slots before) kept (c.put_all.ensures.put open_to))
    (ap length (sym kept) ∙ length-map mid put_by ∙ overs_length mid c.args.producer.now.desk.permits.items c.put_all.ensures.same.3 ∙ sym (length-map c.args.producer.now.desk.permits.items put_by))
    (search rules) (subst (λ (r : ReceiverPermit Noted). IsStartOf (received r) (received c.hear_all.new.desk.receiver)) c.put_all.ensures.same.1 c.hear_all.ensures.grew) c.hear_all.ensures.heard books

pub returns-clause-only : goal.returns-clause-only
returns-clause-only g c =
    let old = received c.put_all.new.desk.receiver in
    let new = received c.hear_all.new.desk.receiver in
    let awaited : length new + ends_in old ≡ length old + unknown c.put_all.new.verdicts.slots + ends_in new = search rules in
    let heard = heard_counts old new (unknown c.put_all.new.verdicts.slots) awaited in
    let same = ap (λ (x : ReceiverPermit Noted). verdicts_in (received x)) c.put_all.ensures.same.1 in
    let kept = ap (λ (v : Vec (LanePermit Job) Global). copies_in (map put_by v.items)) c.hear_all.ensures.same.1 in
    omega (arith, heard, same, kept, c.put_all.ensures.counts)

pub returns-in_default-clause-backed : goal.returns-in_default-clause-backed
returns-in_default-clause-backed g c seat was = c.hear_all.ensures.backed seat (c.put_all.ensures.backed seat was)

pub returns-clause-backed : goal.returns-clause-backed
returns-clause-backed g c seat was = c.hear_all.ensures.backed seat (c.put_all.ensures.backed seat was)
